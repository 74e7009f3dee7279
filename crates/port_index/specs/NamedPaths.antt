-- What a path leads to, by the directory that it names.
use Rattle.std.proofs.Common.{◌≡◌, ◌∙◌, ap, ℕ, true, false, List, Some, None}
use Rattle.std.specs.Prelude.{if◌then◌else◌}
use Rattle.std.specs.Str.{bytes_eq}
use Rattle.mk_paths.specs.World.{World}
use Rattle.pkg_path.specs.Paths.{PathValue, path_if_one}
use Rattle.port_index.specs.PathOutcomes.{finding_in, finding_named, finding_at, nothing_found, own_directory}
use Rattle.port_index.specs.PathQuestions.{questions_in, questions_named, questions_at}

pub finding-named : (world : World) (path : List ℕ) (found : PathValue)
    → bytes_eq path own_directory ≡ false → path_if_one path ≡ Some found
    → finding_at world path ≡ finding_in world found.directory found.flavors
unfolding finding_at
finding-named world path found other is =
    ap (λ own. if own then finding_in world path None else finding_named world (path_if_one path)) other ∙ ap (finding_named world) is

pub questions-named : (world : World) (path : List ℕ) (found : PathValue)
    → bytes_eq path own_directory ≡ false → path_if_one path ≡ Some found
    → questions_at world path ≡ questions_in world found.directory found.flavors
unfolding questions_at
questions-named world path found other is =
    ap (λ own. if own then questions_in world path None else questions_named world (path_if_one path)) other ∙ ap (questions_named world) is

-- the trees' own directory
pub finding-own : (world : World) (path : List ℕ)
    → bytes_eq path own_directory ≡ true → finding_at world path ≡ finding_in world path None
unfolding finding_at
finding-own world path own = ap (λ own. if own then finding_in world path None else finding_named world (path_if_one path)) own

pub questions-own : (world : World) (path : List ℕ)
    → bytes_eq path own_directory ≡ true → questions_at world path ≡ questions_in world path None
unfolding questions_at
questions-own world path own = ap (λ own. if own then questions_in world path None else questions_named world (path_if_one path)) own

-- a text that is no path
pub finding-none : (world : World) (path : List ℕ)
    → bytes_eq path own_directory ≡ false → path_if_one path ≡ None → finding_at world path ≡ nothing_found
unfolding finding_at
finding-none world path other is =
    ap (λ own. if own then finding_in world path None else finding_named world (path_if_one path)) other ∙ ap (finding_named world) is
