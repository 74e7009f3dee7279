-- Makefiles, and what stays as it was while the same ones are there.
use Rattle.std.specs.Prelude.{◌≡◌, ℕ, nat_eq, Bool, true, false, List, String, codes}
use Rattle.std.specs.BTreeSet.{BTreeSet, contains_text}
use Rattle.std.specs.Global.{Global}
use Rattle.std.specs.FinMap.{contains_key}
use Rattle.std.specs.List.{ends_with}
use Rattle.mk_paths.specs.World.{FileMap, World, files_in}
use Rattle.mk_paths.specs.declared.search_path.Settings.{Settings}
use Rattle.port_deps.specs.ItemText.{has_comma}
use Rattle.port_index.specs.Efforts.{has_makefile}
use Rattle.port_index.specs.FilledRows.{is_one_of}
use Rattle.port_index.specs.TreePaths.{directories}

-- a name ends as that of a directory's makefile does
abbrev pub is_makefile : List ℕ → Bool
is_makefile name = ends_with nat_eq name (codes "/Makefile")

-- each makefile whose name passes this test is one of the files
abbrev pub AreThere : (List ℕ → Bool) → FileMap → Type 0
AreThere test files = (name : List ℕ) → test name ≡ true → is_makefile name ≡ true → contains_key files name ≡ true

-- if it is so, each makefile that has one of these names is one of the files
abbrev pub SaysAreThere : BTreeSet (String Global) → FileMap → Bool → Type 0
SaysAreThere names files are = are ≡ true → AreThere (contains_text names) files

-- if it is so and the name is a makefile's, it is that of one of the files
abbrev pub SaysMakefileIsThere : List ℕ → FileMap → Bool → Type 0
SaysMakefileIsThere name files there = there ≡ true → is_makefile name ≡ true → contains_key files name ≡ true

-- if it is so, the name is that of one of the files
abbrev pub SaysIsThere : List ℕ → FileMap → Bool → Type 0
SaysIsThere name files there = there ≡ true → contains_key files name ≡ true

-- the same makefiles are there
abbrev pub SameMakefiles : FileMap → FileMap → Type 0
SameMakefiles old new = (name : List ℕ) → is_makefile name ≡ true → contains_key new name ≡ contains_key old name

-- If it has no comma, a path has a makefile only if it is one of the files' directories.
abbrev pub AreOfDirectories : World → Type 0
AreOfDirectories world = (path : List ℕ) → has_comma path ≡ false → has_makefile world path ≡ true
    → is_one_of path (directories (files_in world)) ≡ true

-- where the same makefiles are there, the directories are the same, and the same paths have a makefile
pub record SameMakefilesServe : Type 0 where
  pub directories : (old new : FileMap) → SameMakefiles old new → directories new ≡ directories old
  pub paths : (old new : FileMap) (settings : Settings) → SameMakefiles old new
      → (path : List ℕ) → has_makefile (new, settings) path ≡ has_makefile (old, settings) path
