-- What holds of all package paths.
use Rattle.std.specs.Prelude.{◌≡◌, ℕ, List, Ok}
use Rattle.pkg_path.specs.Paths.{PathValue, path_of, canonical, IsPath, without_subpackage}

-- a path that a text names is named by its canonical text, too
abbrev pub CanonicalNamesThePath : Type 0
CanonicalNamesThePath = (text : List ℕ) (path : PathValue) → path_of text ≡ Ok path → path_of (canonical path) ≡ Ok path

-- two paths with one canonical text are the same path
abbrev pub SameTextSamePath : Type 0
SameTextSamePath = (path other : PathValue) → IsPath path → IsPath other → canonical path ≡ canonical other → path ≡ other

-- a path without its subpackage is a path
abbrev pub StaysAPath : Type 0
StaysAPath = (path : PathValue) → IsPath path → IsPath (without_subpackage path)
