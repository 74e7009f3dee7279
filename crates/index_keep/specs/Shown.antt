-- The rows of an index as they are shown: each with whether it is stale.
use Rattle.std.specs.Prelude.{◌≡◌, ℕ, ◌||◌, if◌then◌else◌, Bool, true, false, List, Option, Some, None, option_map, option_and_then}
use Rattle.std.specs.Prelude.{String}
use Rattle.std.specs.BTreeSet.{BTreeSet, contains_text}
use Rattle.std.specs.Global.{Global}
use Rattle.std.specs.List.{list_any}
use Rattle.std.specs.Str.{bytes_eq}
use Rattle.port_index.specs.PathOutcomes.{PathOutcome}
use Rattle.port_index.specs.Seen.{Said}
use Rattle.index_row.specs.Rows.{RowValue, row_of}
use Rattle.index_store.specs.Entries.{StoredValue, Entries}

pub record ShownRow : Type 0 where
  pub row : RowValue
  pub stale : Bool

-- the row that is shown for each path, if there is one
abbrev pub ShownRows : Type 0
ShownRows = List ℕ → Option ShownRow

-- a row that asked for a name that passes this test
abbrev pub asked_one : (List ℕ → Bool) → RowValue → Bool
asked_one test row = list_any test row.names

-- A row as it is shown after the names that pass this test have changed. It is stale if it is marked so, or
-- if it asked for one of these names.
abbrev pub show_row : (List ℕ → Bool) → Bool → RowValue → ShownRow
show_row test marked row = record { row = row; stale = marked || asked_one test row }

-- A stored row as it is shown. Bytes that are no row show none: so their path is evaluated again.
abbrev pub show_stored : (List ℕ → Bool) → StoredValue → Option ShownRow
show_stored test stored = option_map (show_row test stored.stale) (row_of stored.text)

-- the rows that are shown, by those that are stored, after the names that pass this test have changed
abbrev pub shown : (List ℕ → Bool) → Entries → ShownRows
shown test entries path = option_and_then (show_stored test) (entries path)

-- no name has changed
abbrev pub no_name : List ℕ → Bool
no_name name = false

-- the rows of a store as they are shown, if no name has changed since
abbrev pub shown_in : {R : Type 0} → (R → Entries) → R → ShownRows
shown_in entries rows = shown no_name (entries rows)

-- the rows of a store as they are shown after these names have changed
abbrev pub shown_after : {R : Type 0} → (R → Entries) → BTreeSet (String Global) → R → ShownRows
shown_after entries changed rows = shown (contains_text changed) (entries rows)

-- the same rows are shown
abbrev pub ShowsSame : ShownRows → ShownRows → Type 0
ShowsSame old new = (path : List ℕ) → new path ≡ old path

-- in a store, the rows are marked that asked for these names; so the same rows are shown once the names are forgotten
abbrev pub MarksAsking : {R : Type 0} → (R → Entries) → BTreeSet (String Global) → R → R → Type 0
MarksAsking entries changed old new = ShowsSame (shown_after entries changed old) (shown_in entries new)

-- what a row says of its path, unless it is stale
abbrev pub fresh_outcome : ShownRow → Option PathOutcome
fresh_outcome row = if row.stale then None else Some row.row.outcome

-- what rows that aren't stale say of each path
abbrev pub fresh : ShownRows → List ℕ → Option PathOutcome
fresh rows path = option_and_then fresh_outcome (rows path)

-- a row is stale now if it asked for this name
abbrev pub stale_if_asked : List ℕ → ShownRow → ShownRow
stale_if_asked name row = record row { stale = row.stale || asked_one (λ asked. bytes_eq name asked) row.row }

-- a row is stale now
abbrev pub made_stale : ShownRow → ShownRow
made_stale row = record row { stale = true }

-- what a row says: what its path leads to, and the names of the files that were asked for to learn that
abbrev pub said_by : RowValue → Said
said_by row = record { outcome = row.outcome; names = row.names }

-- the same of a row that is shown, whether or not it is stale
abbrev pub said_in_row : ShownRow → Said
said_in_row row = said_by row.row

-- what a row says, unless it is stale
abbrev pub said_if_fresh : ShownRow → Option Said
said_if_fresh row = if row.stale then None else Some (said_in_row row)

-- what rows that aren't stale say of each path, and which names they asked for
abbrev pub fresh_said : ShownRows → List ℕ → Option Said
fresh_said rows path = option_and_then said_if_fresh (rows path)
