-- What the queries show.
use Rattle.std.proofs.Common.{◌≡◌, inl, inr, ℕ, ℤ, pos, true, not, ◌||◌, List, [], ◌∷◌, ◌++◌, map, find, get_or, Option, None}
use Rattle.std.proofs.Common.{Some, is_some, refl, sym, ap, ap₂, subst, ◌∙◌, codes, IsTrue, Result, IfOk, IfErr, arith}
use Rattle.std.specs.Prelude.{Vec, ◌==◌, option_map}
use Rattle.std.specs.Option.{option_or}
use Rattle.std.specs.Str.{bytes_eq}
use Rattle.std.specs.declared.alloc.Global.{Global}
use Rattle.std.proofs.Math.Bool.{or_comm}
use Rattle.std.proofs.lemmas.Bool.{cases_Bool}
use Rattle.std.proofs.lemmas.Bool.Decides.{nat_tests}
use Rattle.std.proofs.lemmas.Int.{ints}
use Rattle.std.proofs.lemmas.List.{map-append}
use Rattle.std.proofs.lemmas.List.Elements.{All-from_recursion, All-append}
use Rattle.std.proofs.lemmas.List.Folds.{find-append, list_any-append}
use Rattle.std.proofs.lemmas.Slice.Eq.{bytes_eq-Decides}
use Rattle.sqlite_value.specs.declared.value.Value.TheVariants.{Int}
use Rattle.sqlite_value.specs.Order.{Row}
use Rattle.sqlite_trees.specs.Tree.{Trees}
use Rattle.sqlite_rules.specs.Lists.{Has}
use Rattle.sqlite_rules.proofs.ListLemmas.{all_from, some_from, some_has}
use Rattle.sqlite_rules.proofs.ProbeLemmas.{has_mapped, mapped_has}
use Rattle.sqlite.specs.declared.error.Error.{Error}
use Rattle.sqlite.specs.State.{State, Shown, FailsToQuery}
use Rattle.sql_facts.specs.Filled.{entry_row}
use Rattle.sql_facts.specs.States.{Stays}
use Rattle.sql_facts.proofs.Ending.{if_ok_then}
use Rattle.sql_facts.proofs.Keyed.{ShowsEntries, row_found, selects}
use Rattle.sql_facts.proofs.Statements.{seen as columns}
use Rattle.index_store.specs.declared.statements.Part.{Part}
use Rattle.index_store.specs.declared.statements.Part.TheVariants.{Earlier, Current}
use Rattle.index_store.specs.Entries.{StoredValue, SeenRow, AreRowsOf, is_one_of, row_path, value_in}
use Rattle.index_store.specs.PortTable.{Entry, Rows, AreSettled, IsTableAtRest, layout, rows_at, all_of, no_rows, entries_at, tree_number}
use Rattle.index_store.specs.PortTable.{is_row_at, is_set, value_stored}
use Rattle.index_store.specs.PortTable.{stored_by, stored_of, row_shown, select_rows}
use Rattle.index_store.proofs.Fixed.{all_columns, site, rows_text}

set_number : (n : ℕ) → is_set (Int (pos n)) ≡ not (n == 0)
set_number n = grind (arith, ints, nat_tests)

-- an entry, as a row that is handed out
abbrev entry_seen : Entry → SeenRow
entry_seen e = record { path = e.path; stale = not (e.mark == 0); text = e.text }

shown_row : (part : Part) (id : ℤ) (e : Entry) → row_shown (columns all_columns [] (entry_row (layout part) id e)) ≡ entry_seen e
shown_row part id e = λ i. record { path = e.path; stale = set_number e.mark i; text = e.text }

-- ---- what the rows of a table store

module _ (trees : Trees) (part : Part) (given : List Row) (h : ShowsEntries (layout part) all_columns [] (λ _. true)
    (rows_at trees part) given) where
  abbrev shown : List SeenRow
  shown = map row_shown given

  -- what is shown is an entry, at its path
  one_shown : (y : SeenRow) → Has shown y → (e : Entry) × (y ≡ entry_seen e) × (rows_at trees part e.path ≡ Some e)
  one_shown y k =
      let x = has_mapped row_shown given y k in
      let r = h.sound x.0 x.1 in
      (r.1, x.2 ∙ ap row_shown r.4 ∙ shown_row part r.0 r.1, r.2)

  all_shown : (path : List ℕ) (o : Option Entry) → rows_at trees part path ≡ o
      → is_some (option_map value_stored o) ≡ is_one_of path (map row_path shown)
  all_shown path None is = elim (cases_Bool (is_one_of path (map row_path shown))) [
    | inl there ↦
        let one = some_has (λ one. bytes_eq one path) (map row_path shown) there in
        let y = has_mapped row_path shown one.0 one.1 in
        let e = one_shown y.0 y.1 in
        let same : e.0.path ≡ path = sym (ap row_path e.1) ∙ sym y.2 ∙ (bytes_eq-Decides one.0 path).0 one.2 in
        absurd (let none = sym is ∙ ap (rows_at trees part) (sym same) ∙ e.2 in cc)
    | inr absent ↦ sym absent
  ]
  all_shown path (Some e) is =
      let r = h.complete path e is refl in
      let there = mapped_has row_path shown _ (mapped_has row_shown given _ r.1) in
      sym (some_from (λ one. bytes_eq one path) (map row_path shown) e.path there
      ((bytes_eq-Decides e.path path).1 (sym (row_found (layout part) (trees (tree_number part)) path e is).3)))

  rows_are : AreRowsOf (stored_of (rows_at trees part)) shown
  rows_are = record {
    each = All-from_recursion (λ (row : SeenRow). stored_of (rows_at trees part) row.path ≡ Some (value_in row)) shown
        (all_from _ shown (λ y k.
        let e = one_shown y k in
        subst (λ (y : SeenRow). stored_of (rows_at trees part) y.path ≡ Some (value_in y)) (sym e.1) (ap (option_map value_stored) e.2)));
    all = λ path. all_shown path (rows_at trees part path) refl;
  }

-- ---- the rows of both tables

-- what is found in both tables
pub all_found : (trees : Trees) (path : List ℕ) → find (is_row_at path) (entries_at trees) ≡ all_of (rows_at trees) path
all_found trees path = find-append (is_row_at path) (map (layout Earlier).entry (trees 0)) (map (layout Current).entry (trees 2))

module _ (rows : Rows) (settled : AreSettled rows) where
  -- a path that has a row in the table of today has none in the other
  second : (path : List ℕ) (value : StoredValue) → stored_of (rows Current) path ≡ Some value → stored_of (all_of rows) path ≡ Some value
  second path value is = go (rows Earlier path) refl
    where
      go : (o : Option Entry) → rows Earlier path ≡ o → option_map value_stored (option_or o (rows Current path)) ≡ Some value
      go None none = is
      go (Some e) there = absurd (let e = sym (ap (option_map value_stored) (settled.apart path (ap is_some there))) ∙ is in cc)

  first : (path : List ℕ) (value : StoredValue) → stored_of (rows Earlier) path ≡ Some value → stored_of (all_of rows) path ≡ Some value
  first path value = go (rows Earlier path)
    where
      go : (o : Option Entry) → option_map value_stored o ≡ Some value
          → option_map value_stored (option_or o (rows Current path)) ≡ Some value
      go None is = absurd cc
      go (Some e) is = is

  some-both : (path : List ℕ) → is_some (stored_of (all_of rows) path)
      ≡ (is_some (stored_of (rows Earlier) path) || is_some (stored_of (rows Current) path))
  some-both path = elim (rows Earlier path) as (λ o. is_some (option_map value_stored (option_or o (rows Current path)))
      ≡ (is_some (option_map value_stored o) || is_some (stored_of (rows Current) path))) [ None ↦ refl | Some e ↦ refl ]

  pub rows_together : (earlier current : List SeenRow) → AreRowsOf (stored_of (rows Earlier)) earlier
      → AreRowsOf (stored_of (rows Current)) current
      → AreRowsOf (stored_of (all_of rows)) (current ++ earlier)
  rows_together earlier current a b = record {
    each = All-append (λ row. stored_of (all_of rows) row.path ≡ Some (value_in row)) current earlier
        (λ k d lt. second (get_or current k d).path (value_in (get_or current k d)) (b.each k d lt))
        (λ k d lt. first (get_or earlier k d).path (value_in (get_or earlier k d)) (a.each k d lt));
    all = λ path.
        some-both path ∙ ap₂ (λ x y. x || y) (a.all path) (b.all path)
        ∙ or_comm (is_one_of path (map row_path earlier)) (is_one_of path (map row_path current))
        ∙ sym (ap (is_one_of path) (map-append row_path current earlier)
        ∙ list_any-append (λ one. bytes_eq one path) (map row_path current) (map row_path earlier));
  }

-- where the release before has no row, the table of today has them all
pub rows_alone : (rows : Rows) (current : List SeenRow) → rows Earlier ≡ no_rows Earlier → AreRowsOf (stored_of (rows Current)) current
    → AreRowsOf (stored_of (all_of rows)) current
rows_alone rows current empty h = subst (λ (none : List ℕ → Option Entry). AreRowsOf
    (λ path. option_map value_stored (option_or (none path) (rows Current path))) current) (sym empty) h

-- rows of both tables are those that the database has
pub rows_stored : (trees : Trees) (shown : List SeenRow) → AreRowsOf (stored_of (all_of (rows_at trees))) shown
    → AreRowsOf (stored_by (entries_at trees)) shown
rows_stored trees shown h = subst (λ (found : List ℕ → Option Entry). AreRowsOf (λ path. option_map value_stored (found path)) shown)
    (λ i path. sym (all_found trees path) i) h

-- ---- however a query ends, what it shows is right, and it leaves all as it was

pub rows_end : (part : Part) (old new : State) (result : Result (Vec Row Global) Error) → IsTableAtRest old → IsTrue new.is_open
    → IfOk result (λ rows. Shown (select_rows part) [] old new rows.items)
    → IfErr result (FailsToQuery (select_rows part) [] old new)
    → IfOk result (λ rows. AreRowsOf (stored_of (rows_at old.now.trees part)) (map row_shown rows.items)) × Stays old new
rows_end part old new result kept live ok err =
    let ends = selects (select_rows part) [] old new (site part old kept.formed) [] all_columns
    (codes "path" ∷ codes "stale" ∷ codes "row" ∷ []) (λ _. true) (λ _ _. refl) (rows_text part) result kept.settled live ok err in
    (if_ok_then result (λ given h. rows_are old.now.trees part given.items h) ends.0, ends.1)
