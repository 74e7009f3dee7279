-- The row of a path, as it is found and put.
use Rattle.std.proofs.Common.{◌≡◌, ◌∙◌, ap, refl, ℕ, Bool, true, false, if◌then◌else◌, List, [], ◌∷◌, Some, option_map, option_and_then}
use Rattle.std.specs.List.{list_any}
use Rattle.std.specs.Str.{bytes_eq}
use Rattle.index_row.specs.Rows.{RowValue, row_of}
use Rattle.index_store.specs.Entries.{Entries, PutsRow}
use Rattle.index_keep.specs.Shown.{ShownRow, shown, show_row, show_stored, no_name}

asked-none : (names : List (List ℕ)) → list_any no_name names ≡ false
asked-none [] = refl
asked-none (name ∷ names) = asked-none names

module _ (path : List ℕ) (row : RowValue) (text : List ℕ) (reads : row_of text ≡ Some row) where
  abbrev fresh_one : ShownRow
  fresh_one = record { row = row; stale = false }

  shown_fresh : option_map (show_row no_name false) (row_of text) ≡ Some fresh_one
  shown_fresh =
      ap (option_map (show_row no_name false)) reads
      ∙ ap Some (ap (λ (stale : Bool). let one : ShownRow = record { row = row; stale = stale } in one) (asked-none row.names))

  put_by : (old : Entries) (other : List ℕ) (same : Bool)
      → option_and_then (show_stored no_name) (if same then Some (record { stale = false; text = text }) else old other) ≡
      (if same then Some fresh_one else shown no_name old other)
  put_by old other true = shown_fresh
  put_by old other false = refl

  -- a row that is written is shown
  pub shown-put : (old new : Entries) → PutsRow path text old new → (other : List ℕ)
      → shown no_name new other ≡ (if bytes_eq path other then Some fresh_one else shown no_name old other)
  shown-put old new puts other = ap (option_and_then (show_stored no_name)) (puts other) ∙ put_by old other (bytes_eq path other)
