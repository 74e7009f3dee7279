-- What the tables of the store hold, and the world that it is.
use Rattle.std.specs.Prelude.{ℕ, List, map}
use Rattle.std.specs.FinMap as finite
use Rattle.mk_paths.specs.World.{FileMap, World}
use Rattle.mk_paths.specs.declared.search_path.Settings.{Settings}

-- a file
pub record File : Type 0 where
  pub name : List ℕ
  pub content : List ℕ

-- all files, and the settings
pub record Holdings : Type 0 where
  pub files : List File
  pub settings : Settings

-- files, as a map
abbrev pub map_of : List File → FileMap
map_of files = finite.from_entries (map (λ f. (f.name, f.content)) files)

-- the files as a map, with the settings
abbrev pub world_in : Holdings → World
world_in held = (map_of held.files, held.settings)
