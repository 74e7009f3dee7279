-- What the private functions give with which a refresh begins. Only their clauses use it.
use Rattle.std.specs.Prelude.{◌≡◌, ◌++◌, if◌then◌else◌, ℕ, List, map, Option, Some, None, IfOk, string_bytes, String, Result, Vec}
use Rattle.std.specs.BTreeSet.{BTreeSet, contains_text}
use Rattle.std.specs.Global.{Global}
use Rattle.mk_paths.specs.World.{World}
use Rattle.index_store.specs.Entries.{AreStored, Entries, stored_seen, value_in}
use Rattle.index_store.specs.declared.path_rows.StoredRow.{StoredRow}
use Rattle.port_index.specs.FilledRows.{is_one_of}
use Rattle.port_index.specs.Seen.{HaveAsked, row_seen, said_in}
use Rattle.port_index.specs.declared.path_outcomes.Row.{Row}
use Rattle.port_index.specs.declared.memory_rows.MemoryRows.{MemoryRows}
use Rattle.port_index.specs.declared.known_index.KnownIndex.{KnownIndex}
use Rattle.index_row.specs.Seen as texts
use Rattle.index_row.specs.declared.rows.KeptRow.{KeptRow}
use Rattle.index_keep.specs.declared.refresh_start.Begun.{Begun}
use Rattle.index_keep.specs.declared.refresh_start.Judged.{Judged}
use Rattle.index_keep.specs.declared.refresh_start.Sorted.{Sorted}
use Rattle.index_keep.specs.declared.last_index.LastIndex.{LastIndex}
use Rattle.index_keep.specs.declared.last_index.LastLists.{LastLists}
use Rattle.index_keep.specs.Judgement.{fresh_at, judge, judge_row, judged_seen, known_with, outdated_at, outdated_in}
use Rattle.index_keep.specs.Last.{IsLast, NamesAsBefore, RecallsLists, Serves}
use Rattle.index_keep.specs.Shown.{ShownRows}
use Rattle.index_keep.specs.Walk.{Says}

-- ---- what is known after these names have changed

-- where a function succeeds, it knows what the fresh rows say, if the index of before is that of these rows
abbrev pub KnowsFresh : {E : Type 0} → BTreeSet (String Global) → KnownIndex → Result Begun E → Type 0
KnowsFresh changed last result =
    (rows : ShownRows) → IsLast (contains_text changed) rows last → IfOk result (λ begun. Says rows begun.known)

-- the outdated paths are those whose rows in memory asked for one of these names
abbrev pub HasOutdated : BTreeSet (String Global) → MemoryRows → Begun → Type 0
HasOutdated changed known begun = HaveAsked changed known begun.lists.last.paths

-- where a function succeeds, the lists of the index of before may be kept, if that serves
abbrev pub RecallsLast : {E : Type 0} → BTreeSet (String Global) → KnownIndex → Result Begun E → Type 0
RecallsLast changed last result =
    (world : World) (rows : ShownRows) → IsLast (contains_text changed) rows last → Serves world rows last
    → IfOk result (λ begun. RecallsLists world rows begun.known (map string_bytes begun.directories.items) begun.lists)

-- rows are left that say what they said, without those of these paths
abbrev pub LeavesOut : List (String Global) → MemoryRows → MemoryRows → Type 0
LeavesOut paths known left =
    (path : List ℕ) → said_in left path ≡ (if is_one_of path (map string_bytes paths) then None else said_in known path)

-- only the rows of these paths are taken, and say what they said
abbrev pub TakesOnly : List (String Global) → MemoryRows → MemoryRows → Type 0
TakesOnly paths known taken =
    (path : List ℕ) → said_in taken path ≡ (if is_one_of path (map string_bytes paths) then said_in known path else None)

-- ---- stored rows that are sorted after these names have changed

-- where a function succeeds, it knows what the fresh rows say of those that are stored
abbrev pub SortsFresh : {E : Type 0} → BTreeSet (String Global) → Vec StoredRow Global → Result Sorted E → Type 0
SortsFresh changed stored result =
    (entries : Entries) → AreStored entries stored
    → IfOk result (λ sorted. (path : List ℕ) → said_in sorted.known path ≡ fresh_at (contains_text changed) entries path)

-- where a function succeeds, it gives the paths of the stored rows that have to be marked
abbrev pub SortsOutdated : {E : Type 0} → BTreeSet (String Global) → Vec StoredRow Global → Result Sorted E → Type 0
SortsOutdated changed stored result =
    (entries : Entries) → AreStored entries stored
    → IfOk result (λ sorted. (path : List ℕ) → is_one_of path (map string_bytes sorted.outdated.items)
    ≡ outdated_at (contains_text changed) entries path)

-- if a stored row is fresh, it is known from now on what it says
abbrev pub AddsFresh : BTreeSet (String Global) → StoredRow → Sorted → Sorted → Type 0
AddsFresh changed stored old new =
    (path : List ℕ) → said_in new.known path
    ≡ known_with (contains_text changed) (stored_seen stored) (said_in old.known) path

-- if a stored row has to be marked, its path follows
abbrev pub AddsOutdated : BTreeSet (String Global) → StoredRow → Sorted → Sorted → Type 0
AddsOutdated changed stored old new =
    map string_bytes new.outdated.items
    ≡ map string_bytes old.outdated.items ++ outdated_in (contains_text changed) (stored_seen stored)

-- it is what a stored row is to a refresh
abbrev pub IsJudgedAs : BTreeSet (String Global) → StoredRow → Judged → Type 0
IsJudgedAs changed stored found = judged_seen found ≡ judge (contains_text changed) (value_in (stored_seen stored))

-- it is what a row that isn't marked is to a refresh
abbrev pub IsJudgedRow : BTreeSet (String Global) → KeptRow → Judged → Type 0
IsJudgedRow changed row found = judged_seen found ≡ judge_row (contains_text changed) (Some (texts.kept_row_seen row))

-- ---- the index of before, once a path has a row again

-- it is the index of before, in which the path has an outdated row that names the same paths as this one
abbrev pub KeepsIfAlike : Option LastIndex → List ℕ → Row → LastIndex → Type 0
KeepsIfAlike last path row kept = (last ≡ Some kept) × NamesAsBefore path (row_seen row) kept

-- the same of its lists
abbrev pub KeepsListsIfAlike : Option LastLists → List ℕ → Row → LastLists → Type 0
KeepsListsIfAlike lists path row kept = (lists ≡ Some kept) × NamesAsBefore path (row_seen row) kept.last
