-- The paths beside the listed ones on which the index depends.
use Rattle.std.specs.Prelude.{◌≡◌, ◌&&◌, ◌||◌, ℕ, Bool, List, is_some}
use Rattle.mk_paths.specs.World.{World}
use Rattle.port_deps.specs.ItemText.{has_comma}
use Rattle.port_index.specs.Efforts.{has_makefile}
use Rattle.port_index.specs.FilledRows.{is_one_of}
use Rattle.port_index.specs.TreePaths.{AreInOrder}
use Rattle.port_index.specs.RowLaws.{is_target_among}
use Rattle.port_index.specs.Seen.{entries_in, known_in}
use Rattle.port_index.specs.declared.memory_rows.MemoryRows.{MemoryRows}

-- a path has a row or a makefile
abbrev pub is_there_at : World → MemoryRows → List ℕ → Bool
is_there_at world known path = is_some (entries_in known path) || has_makefile world path

-- They are those with a comma that have a row or a makefile and that items of ports at listed paths name, by the rows of
-- these. They are in order, each once.
pub record AreBeside (world : World) (known : MemoryRows) (listed beside : List (List ℕ)) : Type 0 where
  pub ordered : AreInOrder beside
  pub are : (path : List ℕ) → is_one_of path beside
      ≡ (has_comma path && is_target_among (known_in (entries_in known)) listed path && is_there_at world known path)
