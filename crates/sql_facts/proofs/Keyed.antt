-- What statements make of a table with a unique text key, seen as a map from the keys to entries.
use Rattle.std.proofs.Common.{true≢false, ◌≡◌, ◌≢◌, inl, inr, ℕ, ℤ, eqb, Bool, true, false, cond, not, List, [], ◌∷◌, ◌++◌, map, find}
use Rattle.std.proofs.Common.{filter, drop}
use Rattle.std.proofs.Common.{length, ◌/◌}
use Rattle.std.proofs.Common.{Option, None, Some, is_some, Result, IfOk, IfErr, IsTrue, refl, sym, ap, ap₂, subst, ◌∙◌}
use Rattle.std.proofs.Common.{arith}
use Rattle.std.specs.Prelude.{Vec, option_map}
use Rattle.std.specs.declared.alloc.Global.{Global}
use Rattle.std.specs.List.{AllByRecursion}
use Rattle.std.specs.Option.{option_or}
use Rattle.std.specs.Str.{bytes_eq}
use Rattle.std.proofs.lemmas.Bool.{cases_Bool}
use Rattle.std.proofs.lemmas.Bool.Decides.{nat_tests}
use Rattle.std.proofs.lemmas.List.{map-append}
use Rattle.std.proofs.lemmas.List.Folds.{find-append}
use Rattle.std.proofs.lemmas.Map.Entries.{option_filter}
use Rattle.std.proofs.lemmas.Map.Text.{is_eq-slice_cmp}
use Rattle.std.proofs.lemmas.Option.{cond_some, none-some}
use Rattle.std.proofs.lemmas.Slice.Eq.{bytes_eq-Decides}
use Rattle.general_facts.specs.Texts.{bytes_eq-sym}
use Rattle.sqlite_value.specs.declared.value.Value.TheVariants.{Null, Int, Text}
use Rattle.sqlite_value.specs.Order.{Row}
use Rattle.sqlite_sql.specs.Ops.{unary}
use Rattle.sqlite_sql.specs.Term.{Term, col}
use Rattle.sqlite_schema.specs.declared.command.Command.TheVariants.{Select, Insert, Update, Delete}
use Rattle.sqlite_schema.specs.declared.command.Source.TheVariants.{Values}
use Rattle.sqlite_schema.specs.declared.schema.Kind.TheVariants as kind
use Rattle.sqlite_schema.specs.declared.schema.Schema.{Schema}
use Rattle.sqlite_schema.specs.declared.schema.Table.{Table}
use Rattle.sqlite_trees.specs.Tree.{rowid}
use Rattle.sqlite_trees.specs.View.{IsShaped}
use Rattle.sqlite_trees.specs.declared.store.Shape.TheVariants as Shapes
use Rattle.sqlite_trees.proofs.TreeLemmas.{IsShaped-filter, IsShaped-put_row}
use Rattle.sqlite_rules.specs.Lists.{Has}
use Rattle.sqlite_rules.specs.Cast.{cast, cast_row}
use Rattle.sqlite_rules.specs.Edit.{next_rowid}
use Rattle.sqlite_rules.proofs.ListLemmas.{has_filtered, has_found, has_kept, has_either}
use Rattle.sqlite_rules.proofs.ProbeLemmas.{has_mapped, mapped_has}
use Rattle.sqlite.specs.declared.error.Error.{Error}
use Rattle.sqlite.specs.Effect.{value_rows}
use Rattle.sqlite.specs.Rows.{stamped}
use Rattle.sqlite.specs.State.{State, Shown, FailsToQuery}
use Rattle.sql_facts.specs.Filled.{Layout, EntriesByKey, AreFilled, IsRowOf, entry_row, has_key, entries_of_rows, changed_at}
use Rattle.sql_facts.specs.States.{IsSettled, Ran, Stays}
use Rattle.sql_facts.proofs.Ending.{if_ok_then}
use Rattle.sql_facts.proofs.Rows.{mapped_rise, put_row-next}
use Rattle.sql_facts.proofs.Statements.{IsTableAt, Says, Changes, CountsPassed, AreSeen, Queries, those_of, passes, seen, query_ends}
use Rattle.sql_facts.proofs.Statements.{deletes, updates, inserts}
use Rattle.sql_facts.proofs.Tests.{equals, same_text, alone}

-- ---- values are stored as they are given

pub cond_same : {A : Type 0} (b : Bool) (x : A) → cond b x x ≡ x
cond_same true x = refl
cond_same false x = refl

pub cast_null : cast kind.Integer Null ≡ Null
unfolding unary
cast_null = cond_same _ Null

pub cast_integer : (n : ℤ) → cast kind.Integer (Int n) ≡ Int n
unfolding unary
cast_integer n = cond_same _ (Int n)

-- a row that is added follows the others
pub pushed_rise : (rows : List Row) (cells : Row) → IsShaped Shapes.Table rows
    → IsShaped Shapes.Table (rows ++ (Int (next_rowid rows) ∷ cells) ∷ [])
pushed_rise rows cells h =
    let new = Int (next_rowid rows) ∷ cells in
    subst (IsShaped Shapes.Table) (put_row-next new rows h refl) (IsShaped-put_row new rows refl h)

-- ---- the map that rows are

-- the first that passes, where only one does
find_is : {X : Type 0} (p : X → Bool) (xs : List X) (x : X) → Has xs x → p x ≡ true → ((y : X) → Has xs y → p y ≡ true → y ≡ x)
    → find p xs ≡ Some x
find_is p [] x h ok one = absurd h
find_is p (z ∷ xs) x h ok one = elim (cases_Bool (p z)) [
  | inl here ↦ ap (λ b. cond b (Some z) (find p xs)) here ∙ ap Some (one z (inl refl) here)
  | inr other ↦ elim h [
    | inl same ↦ absurd (true≢false (sym ok ∙ ap p same ∙ other))
    | inr later ↦ ap (λ b. cond b (Some z) (find p xs)) other ∙ find_is p xs x later ok (λ y k. one y (inr k))
  ]
]

same_option : {X : Type 0} (a b : Option X) → ((x : X) → a ≡ Some x → b ≡ Some x) → ((x : X) → b ≡ Some x → a ≡ Some x) → a ≡ b
same_option None None f g = refl
same_option None (Some x) f g = g x refl
same_option (Some x) b f g = sym (f x refl)

option_filter_is : {X : Type 0} (q : X → Bool) (o : Option X) (x : X) → option_filter q o ≡ Some x → (o ≡ Some x) × (q x ≡ true)
option_filter_is q None x is = absurd (none-some x is)
option_filter_is q (Some y) x is = let it = cond_some (q y) y x is in (ap Some it.1, ap q (sym it.1) ∙ it.0)

module _ {E : Type 0} (layout : Layout E) where
  key_is : (key : List ℕ) (e : E) → has_key layout key e ≡ true → key ≡ layout.key e
  key_is key e is = (bytes_eq-Decides key (layout.key e)).0 is

  -- an entry of the map is that of a row with the key
  pub row_found : (rows : List Row) (key : List ℕ) (e : E) → entries_of_rows layout rows key ≡ Some e
      → (r : Row) × Has rows r × (e ≡ layout.entry r) × (key ≡ layout.key e)
  row_found rows key e is =
      let it = has_found (has_key layout key) (map layout.entry rows) e is in
      let r = has_mapped layout.entry rows e it.0 in
      (r.0, r.1, r.2, key_is key e it.1)

  -- no row
  pub none_filled : (rows : List Row) → rows ≡ [] → AreFilled layout rows
  none_filled rows is =
      subst (AreFilled layout) (sym is) (record { rise = (tt, tt); formed = λ r h. absurd h; once = λ r s h k e. absurd h })

  -- the entry of a row is found at its key
  pub found_row : (rows : List Row) → AreFilled layout rows → (r : Row) → Has rows r
      → entries_of_rows layout rows (layout.key (layout.entry r)) ≡ Some (layout.entry r)
  found_row rows filled r h =
      let own = layout.entry r in
      find_is (has_key layout (layout.key own)) (map layout.entry rows) own (mapped_has layout.entry rows r h)
      ((bytes_eq-Decides (layout.key own) _).1 refl)
      (λ e k ok.
      let s = has_mapped layout.entry rows e k in
      s.2 ∙ ap layout.entry (filled.once s.0 r s.1 h (sym (key_is (layout.key own) e ok ∙ ap layout.key s.2))))

  module _ (rows : List Row) (filled : AreFilled layout rows) where
    abbrev was : EntriesByKey E
    was = entries_of_rows layout rows

    -- ---- some rows are left

    module _ (p : Row → Bool) (q : E → Bool) (same : (r : Row) → Has rows r → p r ≡ q (layout.entry r)) where
      left_filled : AreFilled layout (filter p rows)
      left_filled = record {
        rise = IsShaped-filter Shapes.Table p rows filled.rise;
        formed = λ r k. filled.formed r (has_filtered p rows r k).0;
        once = λ r s k l. filled.once r s (has_filtered p rows r k).0 (has_filtered p rows s l).0;
      }

      left_found : (key : List ℕ) → entries_of_rows layout (filter p rows) key ≡ option_filter q (was key)
      left_found key = same_option _ _
          (λ e is.
          let r = row_found (filter p rows) key e is in
          let it = has_filtered p rows r.0 r.1 in
          let there : was key ≡ Some e = ap was (r.3 ∙ ap layout.key r.2) ∙ found_row rows filled r.0 it.0 ∙ ap Some (sym r.2) in
          ap (option_filter q) there ∙ ap (λ b. cond b (Some e) None) (ap q r.2 ∙ sym (same r.0 it.0) ∙ it.1))
          (λ e is.
          let it = option_filter_is q (was key) e is in
          let r = row_found rows key e it.0 in
          let stays = has_kept p rows r.0 r.1 (same r.0 r.1 ∙ ap q (sym r.2) ∙ it.1) in
          ap (entries_of_rows layout (filter p rows)) (r.3 ∙ ap layout.key r.2) ∙ found_row (filter p rows) left_filled r.0 stays
          ∙ ap Some (sym r.2))

    -- ---- rows are replaced, and keep their keys

    module _ (g : Row → Row) (f : E → E) (keeps : (e : E) → layout.key (f e) ≡ layout.key e)
        (same : (r : Row) → Has rows r → layout.entry (g r) ≡ f (layout.entry r)) where
      changed_filled : ((r : Row) → Has rows r → rowid (g r) ≡ rowid r) → ((r : Row) → Has rows r → IsRowOf layout (g r))
          → AreFilled layout (map g rows)
      changed_filled same_id form = record {
        rise = mapped_rise g rows same_id filled.rise;
        formed = λ r k. let s = has_mapped g rows r k in subst (IsRowOf layout) (sym s.2) (form s.0 s.1);
        once = λ r s k l alike.
            let a = has_mapped g rows r k in
            let b = has_mapped g rows s l in
            let key = λ (r : Row) (k : Has rows r). ap layout.key (same r k) ∙ keeps (layout.entry r) in
            let one = filled.once a.0 b.0 a.1 b.1
            (sym (key a.0 a.1) ∙ ap (λ r. layout.key (layout.entry r)) (sym a.2) ∙ alike ∙ ap (λ r. layout.key (layout.entry r)) b.2
            ∙ key b.0 b.1) in
            a.2 ∙ ap g one ∙ sym b.2;
      }

      changed_found : (key : List ℕ) → entries_of_rows layout (map g rows) key ≡ option_map f (was key)
      changed_found key = go rows same
        where
          go : (rows : List Row) → ((r : Row) → Has rows r → layout.entry (g r) ≡ f (layout.entry r))
              → entries_of_rows layout (map g rows) key ≡ option_map f (entries_of_rows layout rows key)
          go [] same = refl
          go (r ∷ rows) same =
              let e = layout.entry r in
              let rest = option_map f (entries_of_rows layout rows key) in
              ap₂ (λ x o. cond (has_key layout key x) (Some x) o) (same r (inl refl)) (go rows (λ s h. same s (inr h)))
              ∙ ap (λ k. cond (bytes_eq key k) (Some (f e)) rest) (keeps e)
              ∙ elim (has_key layout key e) as (λ b. cond b (Some (f e)) rest ≡ option_map f
              (cond b (Some e) (entries_of_rows layout rows key)))
              [ true ↦ refl | false ↦ refl ]

    -- ---- a row is added whose key no other has

    module _ (new : Row) (e : E) (is : layout.entry new ≡ e) (free : was (layout.key e) ≡ None) where
      none_else : (r : Row) → Has rows r → layout.key (layout.entry r) ≡ layout.key (layout.entry new) → ⊥
      none_else r h same = let there = sym (found_row rows filled r h) ∙ ap was (same ∙ ap layout.key is) ∙ free in cc

      pushed_filled : IsShaped Shapes.Table (rows ++ new ∷ []) → IsRowOf layout new → AreFilled layout (rows ++ new ∷ [])
      pushed_filled rise form = record {
        rise = rise;
        formed = λ r k. elim (has_either rows (new ∷ []) r k) [
          | inl old ↦ filled.formed r old
          | inr (inl same) ↦ subst (IsRowOf layout) (sym same) form
          | inr (inr none) ↦ absurd none
        ];
        once = λ r s k l same. elim (has_either rows (new ∷ []) r k) [
          | inl old ↦ elim (has_either rows (new ∷ []) s l) [
            | inl too ↦ filled.once r s old too same
            | inr (inl here) ↦ absurd (none_else r old (same ∙ ap (λ r. layout.key (layout.entry r)) here))
            | inr (inr none) ↦ absurd none
          ]
          | inr (inl here) ↦ elim (has_either rows (new ∷ []) s l) [
            | inl too ↦ absurd (none_else s too (sym same ∙ ap (λ r. layout.key (layout.entry r)) here))
            | inr (inl also) ↦ here ∙ sym also
            | inr (inr none) ↦ absurd none
          ]
          | inr (inr none) ↦ absurd none
        ];
      }

      pushed_found : (key : List ℕ) → entries_of_rows layout (rows ++ new ∷ []) key ≡ changed_at (layout.key e) (λ _. Some e) was key
      pushed_found key =
          ap (find (has_key layout key)) (map-append layout.entry rows (new ∷ []))
          ∙ find-append (has_key layout key) (map layout.entry rows) (layout.entry new ∷ [])
          ∙ ap (λ x. option_or (was key) (cond (has_key layout key x) (Some x) None)) is
          ∙ ap (λ b. option_or (was key) (cond b (Some e) None)) (bytes_eq-sym key (layout.key e))
          ∙ go (bytes_eq (layout.key e) key) refl (was key) refl
        where
          go : (b : Bool) → bytes_eq (layout.key e) key ≡ b → (o : Option E) → was key ≡ o
              → option_or o (cond b (Some e) None) ≡ cond b (Some e) o
          go false apart None is = refl
          go false apart (Some x) is = refl
          go true tie None is = refl
          go true tie (Some x) is = absurd (let there = sym is ∙ ap was (sym ((bytes_eq-Decides (layout.key e) key).0 tie)) ∙ free in cc)

-- ---- what a statement makes of a table

-- the map that a table is, after a statement that left the other tables as they were
pub record Makes {E : Type 0} (layout : Layout E) (schema : Schema) (old new : State) (tree : ℕ) (entries : EntriesByKey E) : Type 0 where
  pub schema_is : new.now.schema ≡ schema
  pub filled : AreFilled layout (new.now.trees tree)
  pub are : entries_of_rows layout (new.now.trees tree) ≡ entries
  pub others : AllByRecursion (λ t. t.tree ≢ tree → new.now.trees t.tree ≡ old.now.trees t.tree) schema.tables
  pub settles : IsSettled old → IsSettled new

-- a table of the database in this state, with its rows
pub record IsMapAt {E : Type 0} (layout : Layout E) (schema : Schema) (at : ℕ) (table : Table) (s : State) : Type 0 where
  pub schema_is : s.now.schema ≡ schema
  pub place : IsTableAt schema at table
  pub filled : AreFilled layout (s.now.trees table.tree)

-- a query's columns of the entries that pass, each of one row
pub record ShowsEntries {E : Type 0} (layout : Layout E) (shown : List Term) (params : Row) (q : E → Bool) (entries : EntriesByKey E)
    (given : List Row) : Type 0 where
  pub sound : (x : Row) → Has given x → (id : ℤ) × (e : E) × (entries (layout.key e) ≡ Some e) × (q e ≡ true)
      × (x ≡ seen shown params (entry_row layout id e))
  pub complete : (key : List ℕ) (e : E) → entries key ≡ Some e → q e ≡ true → (id : ℤ)
      × Has given (seen shown params (entry_row layout id e))

-- rows with one key
abbrev pub of_key : List Term
of_key = equals 1 0 ∷ []

module _ {E : Type 0} (layout : Layout E) (params : Row) where
  -- a test of the rows is one of their entries
  abbrev pub Tests : List Term → (E → Bool) → Type 0
  Tests tests q = (id : ℤ) (e : E) → passes tests params (entry_row layout id e) ≡ q e

  module _ (rows : List Row) (filled : AreFilled layout rows) (tests : List Term) (q : E → Bool) (tested : Tests tests q) where
    passes_as : (r : Row) → Has rows r → passes tests params r ≡ q (layout.entry r)
    passes_as r h = let form = filled.formed r h in ap (passes tests params) form.1 ∙ tested form.0 (layout.entry r)

    shows_entries : (shown : List Term) (given : List Row) → AreSeen tests shown params rows given
        → ShowsEntries layout shown params q (entries_of_rows layout rows) given
    shows_entries shown given h = record {
      sound = λ x k.
          let r = h.sound x k in
          let form = filled.formed r.0 r.1 in
          let ok = sym (passes_as r.0 r.1) ∙ r.2 in
          (form.0, layout.entry r.0, found_row layout rows filled r.0 r.1, ok, r.3 ∙ ap (seen shown params) form.1);
      complete = λ key e is ok.
          let r = row_found layout rows key e is in
          let form = filled.formed r.0 r.1 in
          let there = h.complete r.0 r.1 (passes_as r.0 r.1 ∙ ap q (sym r.2) ∙ ok) in
          (form.0, subst (Has given) (ap (seen shown params) (form.1 ∙ ap (entry_row layout form.0) (sym r.2))) there);
    }

pub passes_key : {E : Type 0} (layout : Layout E) (key : List ℕ) (more : Row) → Tests layout (Text key ∷ more) of_key (has_key layout key)
passes_key layout key more id e = alone _ ∙ same_text (layout.key e) key ∙ is_eq-slice_cmp key (layout.key e)

module _ {E : Type 0} {layout : Layout E} {schema : Schema} {at : ℕ} {table : Table} (sql : List ℕ) (params : Row) (old new : State)
    (site : IsMapAt layout schema at table old) where
  abbrev rows : List Row
  rows = old.now.trees table.tree

  abbrev entries : EntriesByKey E
  entries = entries_of_rows layout rows

  -- however a query ends, what it shows is right, and it leaves all as it was
  pub selects : (tests shown : List Term) (names : List (List ℕ)) (q : E → Bool) → Tests layout params tests q
      → Queries schema sql (Select (those_of table tests shown) names)
      → (result : Result (Vec Row Global) Error) → IsSettled old → IsTrue new.is_open
      → IfOk result (λ rows. Shown sql params old new rows.items) → IfErr result (FailsToQuery sql params old new)
      → IfOk result (λ given. ShowsEntries layout shown params q entries given.items) × Stays old new
  selects tests shown names q tested text result settled live ok err =
      let ends =
      query_ends sql params old new schema at table site.schema_is site.place tests shown names text result settled live ok err in
      (if_ok_then result (λ given h. shows_entries layout params rows site.filled tests q tested shown given.items h) ends.0, ends.1)

  module _ (ran : Ran sql params old new) where
    makes : (left : List Row) (next : EntriesByKey E) → Changes schema old new table.tree left → AreFilled layout left
        → ((key : List ℕ) → entries_of_rows layout left key ≡ next key)
        → Makes layout schema old new table.tree next
    makes left next changes are is = record {
      schema_is = changes.schema_is;
      filled = subst (AreFilled layout) (sym changes.rows_are) are;
      are = ap (entries_of_rows layout) changes.rows_are ∙ (λ i key. is key i);
      others = changes.others;
      settles = changes.settles;
    }

    -- DELETE takes out the entries that pass
    pub deletes_entries : (tests : List Term) (q : E → Bool) → Tests layout params tests q
        → Says schema sql (Delete at (those_of table tests (col 1 0 ∷ [])))
        → Makes layout schema old new table.tree (λ key. option_filter (λ e. not (q e)) (entries key))
    deletes_entries tests q tested text =
        let same = λ (r : Row) (k : Has rows r). ap not (passes_as layout params rows site.filled tests q tested r k) in
        let p = λ (r : Row). not (passes tests params r) in
        let left = left_filled layout rows site.filled p (λ e. not (q e)) same in
        makes (filter p rows) _ (deletes sql params old new schema at table site.schema_is site.place ran.0 ran.1 tests text
        site.filled.rise) left
        (left_found layout rows site.filled p (λ e. not (q e)) same)

    -- UPDATE changes the entries that pass, and its count says whether there is one
    module _ (tests more : List Term) (q : E → Bool) (f : E → E) (tested : Tests layout params tests q)
        (keeps : (e : E) → layout.key (f e) ≡ layout.key e)
        (cells : (id : ℤ) (e : E) → cast_row table (drop 1 (seen (col 1 0 ∷ more) params (entry_row layout id e))) ≡
        entry_row layout id (f e))
        (back : (id : ℤ) (r : Row) → layout.entry (entry_row layout id (f (layout.entry r))) ≡ f (layout.entry r))
        (text : Says schema sql (Update at (those_of table tests (col 1 0 ∷ more)))) where
      abbrev put : Row → Row
      put r = cast_row table (drop 1 (seen (col 1 0 ∷ more) params r))

      put_is : (r : Row) (k : Has rows r) → put r ≡ entry_row layout (site.filled.formed r k).0 (f (layout.entry r))
      put_is r k =
          let form = site.filled.formed r k in
          ap (λ s. cast_row table (drop 1 (seen (col 1 0 ∷ more) params s))) form.1 ∙ cells form.0 (layout.entry r)

      put_entry : (r : Row) (k : Has rows r) → layout.entry (put r) ≡ f (layout.entry r)
      put_entry r k = ap layout.entry (put_is r k) ∙ back (site.filled.formed r k).0 r

      put_id : (r : Row) (k : Has rows r) → rowid (put r) ≡ rowid r
      put_id r k = ap rowid (put_is r k) ∙ sym (ap rowid (site.filled.formed r k).1)

      abbrev changed : Row → Row
      changed r = cond (passes tests params r) (put r) r

      abbrev changed_entry : E → E
      changed_entry e = cond (q e) (f e) e

      entry_is : (r : Row) → Has rows r → layout.entry (changed r) ≡ changed_entry (layout.entry r)
      entry_is r k =
          elim (passes tests params r) as (λ b. layout.entry (cond b (put r) r) ≡ cond b (f (layout.entry r)) (layout.entry r))
          [ true ↦ put_entry r k | false ↦ refl ]
          ∙ ap (λ b. cond b (f (layout.entry r)) (layout.entry r)) (passes_as layout params rows site.filled tests q tested r k)

      key_kept : (e : E) → layout.key (changed_entry e) ≡ layout.key e
      key_kept e = elim (q e) as (λ b. layout.key (cond b (f e) e) ≡ layout.key e) [ true ↦ keeps e | false ↦ refl ]

      id_kept : (r : Row) → Has rows r → rowid (changed r) ≡ rowid r
      id_kept r k = elim (passes tests params r) as (λ b. rowid (cond b (put r) r) ≡ rowid r) [ true ↦ put_id r k | false ↦ refl ]

      form_kept : (r : Row) → Has rows r → IsRowOf layout (changed r)
      form_kept r k = elim (passes tests params r) as (λ b. IsRowOf layout (cond b (put r) r)) [
        | true ↦ let form = site.filled.formed r k in (form.0, put_is r k ∙ ap (entry_row layout form.0) (sym (put_entry r k)))
        | false ↦ site.filled.formed r k
      ]

      pub updates_entries : Makes layout schema old new table.tree (λ key. option_map changed_entry (entries key))
          × CountsPassed (passes tests params) rows ran.0
      updates_entries =
          let it = updates sql params old new schema at table site.schema_is site.place ran.0 ran.1 tests more put text site.filled.rise
          (λ r k. refl) put_id in
          let are = changed_filled layout rows site.filled changed changed_entry key_kept entry_is id_kept form_kept in
          (makes (map changed rows) _ it.0 are (changed_found layout rows site.filled changed changed_entry key_kept entry_is), it.1)

    -- INSERT adds an entry at a key that has none
    pub inserts_entry : (terms : List Term) (width : ℕ) (source : Row) (e : E) → Says schema sql (Insert at (Values terms width))
        → table.is_counted ≡ false
        → value_rows (stamped table params) width (length terms / width) terms ≡ source ∷ []
        → cast_row table source ≡ Null ∷ Text (layout.key e) ∷ layout.rest e
        → ((id : ℤ) → layout.entry (entry_row layout id e) ≡ e) → entries (layout.key e) ≡ None
        → Makes layout schema old new table.tree (changed_at (layout.key e) (λ _. Some e) entries)
    inserts_entry terms width source e text uncounted sources cast_is back free =
        let cells = Text (layout.key e) ∷ layout.rest e in
        let id = next_rowid rows in
        let new_row = entry_row layout id e in
        let form : IsRowOf layout new_row = (id, ap (entry_row layout id) (sym (back id))) in
        let are = pushed_filled layout rows site.filled new_row e (back id) free (pushed_rise rows cells site.filled.rise) form in
        makes (rows ++ new_row ∷ []) _ (inserts sql params old new schema at table site.schema_is site.place ran.0 ran.1 terms width source
        cells text uncounted
        sources cast_is site.filled.rise) are
        (pushed_found layout rows site.filled new_row e (back id) free)

-- ---- statements on one key

module _ {E : Type 0} (layout : Layout E) (rows : List Row) (key other : List ℕ) where
  abbrev entry_at : Option E
  entry_at = entries_of_rows layout rows other

  tied : (e : E) → entry_at ≡ Some e → has_key layout key e ≡ bytes_eq key other
  tied e is = ap (bytes_eq key) (sym (row_found layout rows other e is).3)

  updated_at : (f : E → E) (o : Option E) → entry_at ≡ o
      → option_map (λ e. cond (has_key layout key e) (f e) e) o ≡ cond (bytes_eq key other) (option_map f o) o
  updated_at f None is = sym (cond_same (bytes_eq key other) None)
  updated_at f (Some e) is =
      ap (λ b. Some (cond b (f e) e)) (tied e is)
      ∙ elim (bytes_eq key other) as (λ b. Some (cond b (f e) e) ≡ cond b (Some (f e)) (Some e)) [ true ↦ refl | false ↦ refl ]

  deleted_at : (o : Option E) → entry_at ≡ o → option_filter (λ e. not (has_key layout key e)) o ≡ cond (bytes_eq key other) None o
  deleted_at None is = sym (cond_same (bytes_eq key other) None)
  deleted_at (Some e) is =
      ap (λ b. cond (not b) (Some e) None) (tied e is)
      ∙ elim (bytes_eq key other) as (λ b. cond (not b) (Some e) None ≡ cond b None (Some e)) [ true ↦ refl | false ↦ refl ]

-- the same map, written otherwise
makes_as : {E : Type 0} (layout : Layout E) (schema : Schema) (old new : State) (tree : ℕ) (these those : EntriesByKey E)
    → ((key : List ℕ) → these key ≡ those key)
    → Makes layout schema old new tree these → Makes layout schema old new tree those
makes_as layout schema old new tree these those same h = subst (Makes layout schema old new tree) (λ i key. same key i) h

module _ {E : Type 0} {layout : Layout E} {schema : Schema} {at : ℕ} {table : Table} (sql key : List ℕ) (more : Row) (old new : State)
    (site : IsMapAt layout schema at table old) (ran : Ran sql (Text key ∷ more) old new) where
  abbrev given : Row
  given = Text key ∷ more

  abbrev before : EntriesByKey E
  before = entries_of_rows layout (old.now.trees table.tree)

  pub deletes_at : Says schema sql (Delete at (those_of table of_key (col 1 0 ∷ [])))
      → Makes layout schema old new table.tree (changed_at key (λ _. None) before)
  deletes_at text =
      makes_as layout schema old new table.tree _ _ (λ other. deleted_at layout (old.now.trees table.tree) key other (before other) refl)
      (deletes_entries sql given old new site ran of_key (has_key layout key) (passes_key layout key more) text)

  counts_key : CountsPassed (passes of_key given) (old.now.trees table.tree) ran.0 → not (eqb ran.0 0) ≡ is_some (before key)
  counts_key counts = elim (cases_Bool (eqb ran.0 0)) [
    | inl zero ↦ ap not zero ∙ go (before key) refl (counts.none (is_zero ran.0 zero))
    | inr some ↦
        let r = counts.some (not_zero ran.0 some) in
        let tie = key_is layout key (layout.entry r.0) (sym (passes_here r.0 r.1) ∙ r.2) in
        ap not some ∙ sym (ap is_some (ap before tie ∙ found_row layout (old.now.trees table.tree) site.filled r.0 r.1))
  ]
    where
      passes_here : (r : Row) → Has (old.now.trees table.tree) r → passes of_key given r ≡ has_key layout key (layout.entry r)
      passes_here r k =
          passes_as layout given (old.now.trees table.tree) site.filled of_key (has_key layout key) (passes_key layout key more) r k

      go : (o : Option E) → before key ≡ o → ((r : Row) → Has (old.now.trees table.tree) r → passes of_key given r ≡ false)
          → false ≡ is_some o
      go None is none = refl
      go (Some e) is none =
          let r = row_found layout (old.now.trees table.tree) key e is in
          let here = (bytes_eq-Decides key (layout.key (layout.entry r.0))).1 (r.3 ∙ ap layout.key r.2) in
          sym (none r.0 r.1) ∙ passes_here r.0 r.1 ∙ here

      is_zero : (n : ℕ) → eqb n 0 ≡ true → n ≡ 0
      is_zero n e = grind (arith, nat_tests)

      not_zero : (n : ℕ) → eqb n 0 ≡ false → n ≢ 0
      not_zero n e = grind (arith, nat_tests)

  -- UPDATE of one key changes its entry, and its count says whether there is one
  pub updates_at : (more_shown : List Term) (f : E → E) → ((e : E) → layout.key (f e) ≡ layout.key e)
      → ((id : ℤ) (e : E) → cast_row table (drop 1 (seen (col 1 0 ∷ more_shown) given (entry_row layout id e))) ≡ entry_row layout id (f e))
      → ((id : ℤ) (r : Row) → layout.entry (entry_row layout id (f (layout.entry r))) ≡ f (layout.entry r))
      → Says schema sql (Update at (those_of table of_key (col 1 0 ∷ more_shown)))
      → Makes layout schema old new table.tree (changed_at key (option_map f) before) × (not (eqb ran.0 0) ≡ is_some (before key))
  updates_at more_shown f keeps cells back text =
      let it = updates_entries sql given old new site ran of_key more_shown (has_key layout key) f
      (passes_key layout key more) keeps cells back text in
      let same = λ (other : List ℕ). updated_at layout (old.now.trees table.tree) key other f (before other) refl in
      (makes_as layout schema old new table.tree _ _ same it.0, counts_key it.1)
