-- The index that was at hand before files changed.
use Rattle.std.specs.Global.{Global}
use Rattle.std.specs.Prelude.{◌≡◌, ◌&&◌, ℕ, Bool, true, false, if◌then◌else◌, List, map, Some, None, is_some, option_map}
use Rattle.std.specs.Prelude.{string_bytes, String, Vec}
use Rattle.std.specs.Option.{option_or}
use Rattle.mk_paths.specs.World.{World, files_in}
use Rattle.port_index.specs.Alike.{NameAlike}
use Rattle.port_index.specs.Efforts.{has_makefile}
use Rattle.port_index.specs.FilledRows.{is_one_of}
use Rattle.port_index.specs.Index.{needed_among}
use Rattle.port_index.specs.Makefiles.{AreThere}
use Rattle.port_index.specs.TreePaths.{directories, listed_from}
use Rattle.port_index.specs.PathOutcomes.{PathOutcome}
use Rattle.port_index.specs.Seen.{entries_in, known_in, known_row, said_in}
use Rattle.port_index.specs.declared.memory_rows.MemoryRows.{MemoryRows}
use Rattle.port_index.specs.declared.known_index.KnownIndex.{KnownIndex}
use Rattle.index_keep.specs.declared.last_index.HeldIndex.{HeldIndex}
use Rattle.index_keep.specs.declared.last_index.LastIndex.{LastIndex}
use Rattle.index_keep.specs.declared.last_index.LastLists.{LastLists}
use Rattle.index_keep.specs.Shown.{ShownRow, ShownRows, asked_one, fresh, said_in_row}

-- rows in memory say what the rows that are shown say, stale ones too
abbrev pub SaysAll : ShownRows → MemoryRows → Type 0
SaysAll rows known = (path : List ℕ) → said_in known path ≡ option_map said_in_row (rows path)

-- the paths that were needed, by what the index of before says
abbrev pub needed_before : KnownIndex → List (List ℕ)
needed_before index = needed_among (known_in (entries_in index.rows)) (map string_bytes index.paths.listed.items)

-- After the names that pass this test have changed, it is the index of before. It says what the rows say, its lists
-- follow from that, no path has a row but its needed ones, and no row is stale but those that asked for such a name.
pub record IsLast (test : List ℕ → Bool) (rows : ShownRows) (index : KnownIndex) : Type 0 where
  pub says : SaysAll rows index.rows
  pub listed : map string_bytes index.paths.listed.items
      ≡ listed_from (known_in (entries_in index.rows)) (map string_bytes index.paths.directories.items)
  pub needed : (path : List ℕ) → is_some (rows path) ≡ true → is_one_of path (needed_before index) ≡ true
  pub stale : (path : List ℕ) (row : ShownRow) → rows path ≡ Some row → row.stale ≡ asked_one test row.row

-- in a world, its directories are still the same, and of the paths that were needed, still those that have a row have a
-- makefile
pub record Serves (world : World) (rows : ShownRows) (index : KnownIndex) : Type 0 where
  pub directories : map string_bytes index.paths.directories.items ≡ directories (files_in world)
  pub there : (path : List ℕ) → is_some (rows path) ≡ true → has_makefile world path ≡ true
  pub missing : (path : List ℕ) → is_one_of path (needed_before index) ≡ true → is_some (rows path) ≡ false
      → has_makefile world path ≡ false

-- It is the index of before. It serves if each makefile that has changed was there before, and is there.
pub record IsHeld (test : List ℕ → Bool) (world : World) (rows : ShownRows) (held : HeldIndex) : Type 0 where
  pub last : IsLast test rows held.index
  pub serves : held.were_there ≡ true → AreThere test (files_in world) → Serves world rows held.index

-- what each path leads to by its row, or else by the outdated one
abbrev pub led_to : MemoryRows → MemoryRows → List ℕ → PathOutcome
led_to known outdated path = known_row (option_or (entries_in known path) (entries_in outdated path))

-- no path has a row but these, and whichever of these has one has a makefile
abbrev pub HaveRowsAlone : World → List (List ℕ) → ShownRows → Type 0
HaveRowsAlone world paths rows =
    (path : List ℕ) → is_some (rows path) ≡ true → (is_one_of path paths ≡ true) × (has_makefile world path ≡ true)

-- the needed paths of the index of before, whose listed paths are these
abbrev pub needed_of : MemoryRows → List (List ℕ) → LastIndex → List (List ℕ)
needed_of known listed last = needed_among (led_to known last.outdated) listed

-- the paths of its outdated rows
abbrev pub paths_in : LastIndex → List (List ℕ)
paths_in last = map string_bytes last.paths.items

-- A refresh knows these fresh rows, and the index of before may be kept, whose listed paths are these: the paths that are
-- needed by these rows and the outdated ones are those that have a row, and some without a makefile. A row is fresh, or
-- its path is one of the outdated ones.
pub record Recalls (world : World) (rows : ShownRows) (known : MemoryRows) (listed : List (List ℕ)) (last : LastIndex) : Type 0 where
  pub alone : HaveRowsAlone world (needed_of known listed last) rows
  pub missing : (path : List ℕ) → is_one_of path (needed_of known listed last) ≡ true → is_some (rows path) ≡ false
      → has_makefile world path ≡ false
  pub outdated : (path : List ℕ) → is_some (entries_in last.outdated path) ≡ true → is_some (rows path) ≡ true
  pub among : (path : List ℕ) → is_one_of path (paths_in last) ≡ true → is_some (rows path) ≡ true
  pub fresh : (path : List ℕ) → is_some (rows path) ≡ true → is_one_of path (paths_in last) ≡ false
      → is_some (entries_in known path) ≡ true

-- the listed paths of the index of before
abbrev pub listed_in : LastLists → List (List ℕ)
listed_in lists = map string_bytes lists.listed.items

-- the same, and its listed paths follow from these directories
pub record RecallsLists (world : World) (rows : ShownRows) (known : MemoryRows)
    (directories : List (List ℕ)) (lists : LastLists) : Type 0 where
  pub listed : listed_in lists ≡ listed_from (led_to known lists.last.outdated) directories
  pub last : Recalls world rows known (listed_in lists) lists.last

-- the path has an outdated row, which names the same paths as this one
pub record NamesAsBefore (path : List ℕ) (row : PathOutcome) (last : LastIndex) : Type 0 where
  pub before : PathOutcome
  pub was : entries_in last.outdated path ≡ Some before
  pub alike : NameAlike path before row

-- one of these paths
abbrev pub is_one_in : List ℕ → Vec (String Global) Global → Bool
is_one_in path paths = is_one_of path (map string_bytes paths.items)

-- it is one of these paths, and has a fresh row
abbrev pub is_fresh_of : List (List ℕ) → ShownRows → List ℕ → Bool
is_fresh_of needed rows path = is_one_of path needed && is_some (fresh rows path)

-- The fresh rows of these paths are left. The others are the paths of all other rows.
pub record LeavesFresh (needed : List (List ℕ)) (old new : ShownRows) (others : Vec (String Global) Global) : Type 0 where
  pub left : (path : List ℕ) → new path ≡ (if is_fresh_of needed old path then old path else None)
  pub apart : (path : List ℕ) → is_fresh_of needed old path ≡ true → is_one_in path others ≡ false
  pub all : (path : List ℕ) → is_fresh_of needed old path ≡ false → is_some (old path) ≡ true → is_one_in path others ≡ true
