-- The marks that rows are given, and what a change makes of the rows.
use Rattle.std.specs.Prelude.{◌≡◌, ℕ, Bool, true, if◌then◌else◌, List, find, map, None, Some, is_some, String, string_bytes}
use Rattle.std.specs.Borrow.{Bor, MutBor}
use Rattle.std.specs.Global.{Global}
use Rattle.mk_text.specs.declared.profile.Profile.{Profile}
use Rattle.mk_text.specs.Profiles.{profile_number}
use Rattle.sqlite.specs.Held.{Held}
use Rattle.sqlite_trees.specs.declared.memory.MemStore.{MemStore}
use Rattle.sql_facts.specs.States.{state_of}
use Rattle.index_store.specs.declared.statements.Part.{Part}
use Rattle.index_store.specs.declared.statements.Mark.{Mark}
use Rattle.index_store.specs.declared.statements.Mark.TheVariants.{Stale, Leaving}
use Rattle.index_store.specs.declared.statements.Part.TheVariants.{Earlier, Current}
use Rattle.index_store.specs.declared.transactions.Change.{Change}
use Rattle.index_store.specs.declared.transactions.Change.TheVariants.{Put, PutEarlier, Mark as MarkPaths, MarkAll, TakeOut}
use Rattle.index_store.specs.Entries.{is_one_of}
use Rattle.index_store.specs.PortTable.{Entry, Rows, ByPath, Holds, HoldsInside, is_row_at, rows_of, stale_mark, leaving_mark}
use Rattle.index_store.specs.PortTable.{marked_at, marked_among, all_marked, staying_of, without, with_row, with_rows, replaced_at}

-- the number of a mark in the column `stale`
abbrev pub mark_number : Mark → ℕ
mark_number Stale = stale_mark
mark_number Leaving = leaving_mark

-- the rows of each table, with this one in the table of today, and none of its path in that of the release before
abbrev pub with_current : List ℕ → Profile → List ℕ → Rows → Rows
with_current path profile text rows Earlier = without path (rows Earlier)
with_current path profile text rows Current = with_row path (Some (profile_number profile)) text (rows Current)

-- the rows of each table after a change
abbrev pub rows_after : Change → Rows → Rows
rows_after (Put is_new path profile text) rows part = with_current path.now profile text.now rows part
rows_after (PutEarlier path text) rows Earlier = with_row path.now None text.now (without path.now (rows Earlier))
rows_after (PutEarlier path text) rows Current = without path.now (rows Current)
rows_after (MarkPaths paths) rows part = marked_among stale_mark (map string_bytes paths.now) (rows part)
rows_after MarkAll rows part = all_marked (rows part)
rows_after (TakeOut paths) rows part = staying_of (marked_among leaving_mark (map string_bytes paths.now) (rows part))

-- a path that is said to have no row has none in the table of today, and only where the release before may have a
-- row does it get one
abbrev pub IsAllowedChange : Bool → Change → Rows → Type 0
IsAllowedChange has_earlier (Put is_new path profile text) rows = is_new ≡ true → rows Current path.now ≡ None
IsAllowedChange has_earlier (PutEarlier path text) rows = has_earlier ≡ true
IsAllowedChange has_earlier _ rows = Unit {0}

-- what a change makes of the rows of both tables
abbrev pub changed_by : Change → ByPath → ByPath
changed_by (Put is_new path profile text) = with_row path.now (Some (profile_number profile)) text.now
changed_by (PutEarlier path text) = with_row path.now None text.now
changed_by (MarkPaths paths) = marked_among stale_mark (map string_bytes paths.now)
changed_by MarkAll = all_marked
changed_by (TakeOut paths) = λ rows path. if is_one_of path (map string_bytes paths.now) then None else rows path

-- the row that is found for each path after a change
abbrev pub Changes : Change → List Entry → List Entry → Type 0
Changes change old new = (path : List ℕ) → find (is_row_at path) new ≡ changed_by change (λ path. find (is_row_at path) old) path

-- ---- what a transaction makes of the rows of its connection

-- a transaction gives one table what this makes of its rows, and leaves the other table as it is
abbrev pub Alters : Part → (ByPath → ByPath) → MutBor (Held MemStore) → MutBor (Held MemStore) → Type 0
Alters part change old new = HoldsInside (state_of new.now) (with_rows part (change (rows_of old.now part)) (rows_of old.now))

-- a transaction gives each table what this makes of its rows
abbrev pub AltersBoth : (ByPath → ByPath) → MutBor (Held MemStore) → MutBor (Held MemStore) → Type 0
AltersBoth change old new = HoldsInside (state_of new.now) (λ part. change (rows_of old.now part))

-- a transaction makes this change
abbrev pub Makes : Change → MutBor (Held MemStore) → MutBor (Held MemStore) → Type 0
Makes change old new = HoldsInside (state_of new.now) (rows_after change (rows_of old.now))

-- a transaction gives a path this row as the release before wrote it, and takes out the one there
abbrev pub PutsEarlier : Bor (List ℕ) → Bor (List ℕ) → MutBor (Held MemStore) → MutBor (Held MemStore) → Type 0
PutsEarlier path text old new = Makes (PutEarlier path text) old new

-- a transaction adds this row to the table of the release before
abbrev pub InsertsEarlier : List ℕ → List ℕ → MutBor (Held MemStore) → MutBor (Held MemStore) → Type 0
InsertsEarlier path text old new = Alters Earlier (with_row path None text) old new

-- a transaction gives a path this row in the table of today
abbrev pub WritesCurrent : List ℕ → Profile → List ℕ → MutBor (Held MemStore) → MutBor (Held MemStore) → Type 0
WritesCurrent path profile text old new = Alters Current (with_row path (Some (profile_number profile)) text) old new

-- if a path has a row in the table of today, a transaction gives it this one
abbrev pub ReplacesCurrent : List ℕ → Profile → List ℕ → MutBor (Held MemStore) → MutBor (Held MemStore) → Type 0
ReplacesCurrent path profile text old new = Alters Current (replaced_at path (Some (profile_number profile)) text) old new

-- an answer says whether a path has a row in the table of today
abbrev pub SaysHasRow : List ℕ → MutBor (Held MemStore) → Bool → Type 0
SaysHasRow path old there = there ≡ is_some (rows_of old.now Current path)

-- a transaction gives a path this row in the table of today, and takes out the one that the release before wrote
abbrev pub Stores : List ℕ → Profile → List ℕ → MutBor (Held MemStore) → MutBor (Held MemStore) → Type 0
Stores path profile text old new = HoldsInside (state_of new.now) (with_current path profile text (rows_of old.now))

-- a transaction gives the row of a path this mark in one table
abbrev pub MarksRow : Mark → List ℕ → Part → MutBor (Held MemStore) → MutBor (Held MemStore) → Type 0
MarksRow mark path part old new = Alters part (marked_at (mark_number mark) path) old new

-- a transaction gives the row of a path this mark, in whichever table it is
abbrev pub MarksPath : Mark → List ℕ → MutBor (Held MemStore) → MutBor (Held MemStore) → Type 0
MarksPath mark path old new = AltersBoth (marked_at (mark_number mark) path) old new

-- a transaction gives the rows of these paths this mark, in whichever table they are
abbrev pub MarksAmong : Mark → List (String Global) → MutBor (Held MemStore) → MutBor (Held MemStore) → Type 0
MarksAmong mark paths old new = AltersBoth (marked_among (mark_number mark) (map string_bytes paths)) old new

-- once it is committed, the tables have the rows that a change makes
abbrev pub Commits : Change → Held MemStore → Held MemStore → Type 0
Commits change old new = Holds (state_of new) (rows_after change (rows_of old))
