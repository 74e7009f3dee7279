-- What finds rows by their paths, and what finds paths.
use Rattle.std.specs.Prelude.{◌≡◌, ℕ, Bool, List, ◌++◌, map, Option, Some, String, string_bytes, option_map}
use Rattle.std.specs.Borrow.{Bor}
use Rattle.std.specs.BTreeMap.{get_by_text}
use Rattle.std.specs.Global.{Global}
use Rattle.std.specs.List.{All}
use Rattle.std.specs.Option.{option_to_list}
use Rattle.port_index.specs.FilledRows.{is_one_of}
use Rattle.port_index.specs.TreePaths.{AreInOrder}
use Rattle.port_index.specs.Seen.{entries_in, row_lent}
use Rattle.port_index.specs.declared.path_outcomes.Row.{Row}
use Rattle.port_index.specs.declared.noted_rows.KnownRow.{KnownRow}
use Rattle.port_index.specs.declared.memory_rows.MemoryRows.{MemoryRows}
use Rattle.port_index.specs.declared.memory_rows.RowFinder.{RowFinder}
use Rattle.port_index.specs.declared.path_finder.PathFinder.{PathFinder}

-- the rows that it hasn't passed, by their paths
abbrev pub ahead_of : RowFinder → List (String Global × KnownRow)
ahead_of finder = option_to_list (option_map (λ entry. (entry.0.now, entry.1.now)) finder.ahead) ++ finder.left

-- an entry of these rows, which is found under its path
abbrev pub IsEntryOf : MemoryRows → String Global × KnownRow → Type 0
IsEntryOf rows entry = get_by_text rows.noted.rows (string_bytes entry.0) ≡ Some entry.1

-- It finds these rows, and what it hasn't passed is of them.
pub record IsFinderOf (rows : MemoryRows) (finder : RowFinder) : Type 0 where
  pub finds : finder.rows.now ≡ rows
  pub ahead : All (IsEntryOf rows) (ahead_of finder)

-- it finds these paths
abbrev pub FindsPaths : List (List ℕ) → PathFinder → Type 0
FindsPaths paths finder = map string_bytes finder.paths.now ≡ paths

-- whatever rows it finds, this is what the row of a path says, if it has one
abbrev pub FindsRow : List ℕ → RowFinder → Option (Bor Row) → Type 0
FindsRow path finder row = (rows : MemoryRows) → IsFinderOf rows finder → row_lent row ≡ entries_in rows path

-- it finds the paths that it found
abbrev pub KeepsFinding : PathFinder → PathFinder → Type 0
KeepsFinding old new = (paths : List (List ℕ)) → FindsPaths paths old → FindsPaths paths new

-- if the paths that it finds are in order, an answer says whether a path is one of them
abbrev pub TellsIfFound : List ℕ → PathFinder → Bool → Type 0
TellsIfFound path finder found =
    (paths : List (List ℕ)) → FindsPaths paths finder → AreInOrder paths → found ≡ is_one_of path paths

-- if these paths are in order, an answer says whether a path is one of them
abbrev pub TellsPathAmong : List ℕ → List (String Global) → Bool → Type 0
TellsPathAmong path paths found = AreInOrder (map string_bytes paths) → found ≡ is_one_of path (map string_bytes paths)
