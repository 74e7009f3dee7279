-- What is shown of stored rows, and what is fresh of them.
use Rattle.std.proofs.Common.{◌≡◌, ◌∙◌, sym, ap, refl, ℕ, Bool, true, false, ◌||◌, if◌then◌else◌, List, [], ◌∷◌, Option, Some, None}
use Rattle.std.proofs.Common.{option_map, option_and_then}
use Rattle.std.specs.List.{list_any}
use Rattle.port_index.specs.FilledRows.{is_one_of}
use Rattle.port_index.specs.Seen.{Said, entries_in, said_in}
use Rattle.port_index.specs.declared.memory_rows.MemoryRows.{MemoryRows}
use Rattle.index_row.specs.Rows.{RowValue, row_of}
use Rattle.index_store.specs.Entries as store
use Rattle.index_store.specs.Entries.{StoredValue, Entries, MarksRowsOf}
use Rattle.index_keep.specs.Shown.{ShownRow, ShownRows, shown, show_row, show_stored, asked_one, no_name, fresh, fresh_outcome, fresh_said}
use Rattle.index_keep.specs.Shown.{said_by, said_if_fresh, ShowsSame}
use Rattle.index_keep.specs.Judgement.{Fresh, Outdated, Unusable, judge, judge_row, said_of, is_outdated, fresh_at, outdated_at}

-- no row asked for a name of which there is none
asked-no_name : (names : List (List ℕ)) → list_any no_name names ≡ false
asked-no_name [] = refl
asked-no_name (name ∷ names) = asked-no_name names

fresh_by : (test : List ℕ → Bool) (row : RowValue) (stale asked : Bool) → asked_one test row ≡ asked
    → said_if_fresh (show_row test stale row) ≡ said_of (if stale then Unusable else judge_row test (Some row))
fresh_by test row true asked is = refl
fresh_by test row false true is = ap (λ b. if b then None else Some (said_by row)) is
    ∙ sym (ap (λ (b : Bool). said_of (if b then Outdated else Fresh (said_by row))) is)
fresh_by test row false false is = ap (λ b. if b then None else Some (said_by row)) is
    ∙ sym (ap (λ (b : Bool). said_of (if b then Outdated else Fresh (said_by row))) is)

none_fresh : (test : List ℕ → Bool) (stale : Bool) → None ≡ said_of (if stale then Unusable else judge_row test None)
none_fresh test true = refl
none_fresh test false = refl

fresh_stored : (test : List ℕ → Bool) (stale : Bool) (row : Option RowValue)
    → option_and_then said_if_fresh (option_map (show_row test stale) row) ≡ said_of (if stale then Unusable else judge_row test row)
fresh_stored test stale None = none_fresh test stale
fresh_stored test stale (Some row) = fresh_by test row stale (asked_one test row) refl

fresh_of : (test : List ℕ → Bool) (stored : Option StoredValue)
    → option_and_then said_if_fresh (option_and_then (show_stored test) stored) ≡ option_and_then
    (λ (one : StoredValue). said_of (judge test one)) stored
fresh_of test None = refl
fresh_of test (Some stored) = fresh_stored test stored.stale (row_of stored.text)

-- what is fresh of stored rows
pub fresh-shown : (test : List ℕ → Bool) (entries : Entries) (path : List ℕ) → fresh_said (shown test entries) path ≡
    fresh_at test entries path
fresh-shown test entries path = fresh_of test (entries path)

module _ (test : List ℕ → Bool) where
  same_stale : (row : RowValue) (stale asked : Bool) → asked_one test row ≡ asked
      → ((if is_outdated (if stale then Unusable else judge_row test (Some row)) then true else stale) || asked_one no_name row) ≡
      (stale || asked_one test row)
  same_stale row true asked is = refl
  same_stale row false true is =
      ap (λ (b : Bool). (if is_outdated (if b then Outdated else Fresh (said_by row)) then true else false) || asked_one no_name row) is
      ∙ sym is
  same_stale row false false is =
      ap (λ (b : Bool). (if is_outdated (if b then Outdated else Fresh (said_by row)) then true else false) || asked_one no_name row) is
      ∙ asked-no_name row.names ∙ sym is

  row_marked : (row : RowValue) (stale marked : Bool) → marked ≡ is_outdated (if stale then Unusable else judge_row test (Some row))
      → show_row no_name (if marked then true else stale) row ≡ show_row test stale row
  row_marked row stale marked is =
      ap (λ (stale : Bool). let found : ShownRow = record { row = row; stale = stale } in found)
      (ap (λ (b : Bool). (if b then true else stale) || asked_one no_name row) is ∙ same_stale row stale (asked_one test row) refl)

  stored_marked : (row : Option RowValue) (stale marked : Bool) → marked ≡ is_outdated (if stale then Unusable else judge_row test row)
      → option_map (show_row no_name (if marked then true else stale)) row ≡ option_map (show_row test stale) row
  stored_marked None stale marked is = refl
  stored_marked (Some row) stale marked is = ap Some (row_marked row stale marked is)

  mark_by : (stored : StoredValue) (marked : Bool) → option_and_then (show_stored no_name)
      (if marked then option_map store.marked (Some stored) else Some stored)
      ≡ option_map (show_row no_name (if marked then true else stored.stale)) (row_of stored.text)
  mark_by stored true = refl
  mark_by stored false = refl

  entry_marked : (stored : Option StoredValue) (marked : Bool) → marked ≡ outdated_at test (λ path. stored) []
      → option_and_then (show_stored no_name) (if marked then option_map store.marked stored else stored) ≡ option_and_then
      (show_stored test) stored
  entry_marked None true is = refl
  entry_marked None false is = refl
  entry_marked (Some stored) marked is = mark_by stored marked ∙ stored_marked (row_of stored.text) stored.stale marked is

  -- rows that are marked are shown as they were before the names were forgotten
  pub shown-marked : (paths : List (List ℕ)) (old new : Entries) → ((path : List ℕ) → is_one_of path paths ≡ outdated_at test old path)
      → MarksRowsOf paths old new
      → ShowsSame (shown test old) (shown no_name new)
  shown-marked paths old new outdated marks path =
      ap (option_and_then (show_stored no_name)) (marks path) ∙ entry_marked (old path) (is_one_of path paths) (outdated path)

-- the same stored rows are shown the same
pub shown-same : (test : List ℕ → Bool) (old new : Entries) → ((path : List ℕ) → new path ≡ old path)
    → ShowsSame (shown test old) (shown test new)
shown-same test old new same path = ap (option_and_then (show_stored test)) (same path)

-- a test that passes the same names shows the same
pub shown-test : (one other : List ℕ → Bool) (entries : Entries) → ((name : List ℕ) → one name ≡ other name)
    → ShowsSame (shown other entries) (shown one entries)
shown-test one other entries same path = ap (λ (test : List ℕ → Bool). shown test entries path) (λ i name. same name i)

fresh_by_said : (row : ShownRow) (stale : Bool) → option_map (λ (said : Said). said.outcome)
    (if stale then None else Some (said_by row.row)) ≡ (if stale then None else Some row.row.outcome)
fresh_by_said row true = refl
fresh_by_said row false = refl

said_at : (row : Option ShownRow) → option_map (λ (said : Said). said.outcome) (option_and_then said_if_fresh row) ≡
    option_and_then fresh_outcome row
said_at None = refl
said_at (Some row) = fresh_by_said row row.stale

-- what fresh rows say of a path is what it leads to
pub fresh-said : (rows : ShownRows) (path : List ℕ) → option_map (λ (said : Said). said.outcome) (fresh_said rows path) ≡ fresh rows path
fresh-said rows path = said_at (rows path)

-- rows in memory that say what fresh rows say
pub entries-fresh : (rows : ShownRows) (known : MemoryRows) → ((path : List ℕ) → said_in known path ≡ fresh_said rows path)
    → (path : List ℕ) → entries_in known path ≡ fresh rows path
entries-fresh rows known says path = ap (option_map (λ (said : Said). said.outcome)) (says path) ∙ fresh-said rows path

module _ (test : List ℕ → Bool) where
  mark_asked : (row : RowValue) (stale asked : Bool) → asked_one test row ≡ asked
      → ((if asked then true else stale) || asked_one no_name row) ≡ (stale || asked_one test row)
  mark_asked row true true is = refl
  mark_asked row true false is = refl
  mark_asked row false true is = sym is
  mark_asked row false false is = asked-no_name row.names ∙ sym is

  row_asked : (row : RowValue) (stale asked : Bool) → asked_one test row ≡ asked → show_row no_name (if asked then true else stale) row
      ≡ show_row test stale row
  row_asked row stale asked is = ap (λ (stale : Bool). let found : ShownRow = record { row = row; stale = stale } in found)
      (mark_asked row stale asked is)

  text_asked : (row : Option RowValue) (stale marked : Bool) → ((one : RowValue) → row ≡ Some one → asked_one test one ≡ marked)
      → option_map (show_row no_name (if marked then true else stale)) row ≡ option_map (show_row test stale) row
  text_asked None stale marked is = refl
  text_asked (Some row) stale marked is = ap Some (row_asked row stale marked (is row refl))

  entry_asked : (stored : Option StoredValue) (marked : Bool) → ((one : StoredValue) (row : RowValue) → stored ≡ Some one
      → row_of one.text ≡ Some row → asked_one test row ≡ marked)
      → option_and_then (show_stored no_name) (if marked then option_map store.marked stored else stored) ≡ option_and_then
      (show_stored test) stored
  entry_asked None true is = refl
  entry_asked None false is = refl
  entry_asked (Some stored) marked is = mark_by test stored marked ∙ text_asked (row_of stored.text) stored.stale marked
      (λ row there. is stored row refl there)

  -- where just the rows are marked that asked for a name, rows are shown as they were before the names were forgotten
  pub shown-asked : (paths : List (List ℕ)) (old new : Entries) → ((path : List ℕ) (one : StoredValue) (row : RowValue)
      → old path ≡ Some one → row_of one.text ≡ Some row → asked_one test row ≡ is_one_of path paths)
      → MarksRowsOf paths old new → ShowsSame (shown test old) (shown no_name new)
  shown-asked paths old new asked marks path =
      ap (option_and_then (show_stored no_name)) (marks path) ∙ entry_asked (old path) (is_one_of path paths) (asked path)
