-- What finds rows by their paths.
use Rattle.std.proofs.Common.{arith, length, ◌<◌, ◌≡◌, ◌∙◌, ap, subst, sym, ℕ, List, [], ◌∷◌, ◌++◌, Option, Some, None, option_map, Bor}
use Rattle.std.proofs.Common.{String, Global, string_bytes}
use Rattle.std.proofs.lemmas.List.Elements.{All-rest}
use Rattle.std.specs.Prelude.{MatchOption}
use Rattle.std.specs.List.{All}
use Rattle.std.specs.Option.{option_to_list}
use Rattle.port_index.specs.Finders.{IsEntryOf, IsFinderOf, ahead_of}
use Rattle.port_index.specs.Seen.{Said, entries_in, known_seen, row_seen}
use Rattle.port_index.specs.declared.noted_rows.KnownRow.{KnownRow}
use Rattle.port_index.specs.declared.memory_rows.MemoryRows.{MemoryRows}
use Rattle.port_index.specs.declared.memory_rows.RowFinder.{RowFinder}

abbrev Entry : Type 0
Entry = String Global × KnownRow

abbrev Lent : Type 0
Lent = Bor (String Global) × Bor KnownRow

abbrev shown : Lent → Entry
shown entry = (entry.0.now, entry.1.now)

-- the first of some entries and those after it are these entries
pub taken : (entries left : List Entry) (first : Option Lent) → MatchOption first ((entries ≡ []) × (left ≡ []))
    (λ entry. entries ≡ shown entry ∷ left)
    → option_to_list (option_map shown first) ++ left ≡ entries
taken entries left None is = is.1 ∙ sym is.0
taken entries left (Some entry) is = sym is

module _ (rows : MemoryRows) where
  -- a finder that has passed its first entry
  pub finder-passed : (old new : RowFinder) (first : Lent) → IsFinderOf rows old → old.ahead ≡ Some first → new.rows ≡ old.rows
      → MatchOption new.ahead ((old.left ≡ []) × (new.left ≡ [])) (λ entry. old.left ≡ shown entry ∷ new.left) → IsFinderOf rows new
  finder-passed old new first is ahead same next = record {
    finds = ap (λ (one : Bor MemoryRows). one.now) same ∙ is.finds;
    ahead = subst (All (IsEntryOf rows)) (sym (taken old.left new.left new.ahead next))
        (All-rest (IsEntryOf rows) (shown first) old.left (ahead_of old)
        (ap (λ (one : Option Lent). option_to_list (option_map shown one) ++ old.left) ahead) is.ahead);
  }

  -- the row of the path that comes first
  pub first-found : (old : RowFinder) (first : Lent) (path : List ℕ) → IsFinderOf rows old → old.ahead ≡ Some first
      → string_bytes first.0.now ≡ path
      → Some (row_seen first.1.now.row) ≡ entries_in rows path
  first-found old first path is ahead same =
      let all = subst (All (IsEntryOf rows)) (ap (λ (one : Option Lent). option_to_list (option_map shown one) ++ old.left) ahead) is.ahead
      in
      let inside : 0 < length (shown first ∷ old.left) = omega arith in
      sym (ap (entries_in rows) (sym same) ∙ ap (λ row. option_map (λ (said : Said). said.outcome) (option_map known_seen row))
      (all 0 (shown first) inside))
