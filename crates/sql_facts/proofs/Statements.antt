-- What statements on one table do, whatever the schema and the tests are.
use Rattle.std.proofs.Common.{◌≡◌, ◌≢◌, ◌⊎◌, inl, inr, ℕ, ◌/◌, negsuc, pos, Bool, true, false, cond, not, List, [], ◌∷◌, ◌++◌, length, map}
use Rattle.std.proofs.Common.{drop, filter, fold, flat_map, is_lt, slice_get, Option, None, Some, Result, Ok, Err, IfOk, IfErr, IsTrue}
use Rattle.std.proofs.Common.{refl, sym, ap, subst, ◌∙◌, arith}
use Rattle.std.proofs.lemmas.List.{length-map}
use Rattle.std.specs.List.{AllByRecursion, list_all}
use Rattle.std.specs.Ordering.{int_cmp}
use Rattle.std.specs.Prelude.{IsPermutation, if◌then◌else◌, MatchBool, unwrap_or, Vec}
use Rattle.std.specs.declared.alloc.Global.{Global}
use Rattle.std.proofs.lemmas.Bool.{cases_Bool}
use Rattle.std.proofs.lemmas.List.Sorted.{IsPermutation-sym}
use Rattle.general_facts.specs.Options.{same_Ok}
use Rattle.sqlite_trees.proofs.ListLemmas.{all-permutation}
use Rattle.sqlite_value.specs.declared.value.Value.TheVariants.{Null, Int}
use Rattle.sqlite_value.specs.declared.keys.Key.{Key}
use Rattle.sqlite_value.specs.Order.{Row}
use Rattle.sqlite_trees.specs.Tree.{Trees, rowid}
use Rattle.sqlite_sql.specs.Term.{Term, lit, col, eval_all, holds}
use Rattle.sqlite_sql.specs.Query.{Query, inner, end, IsAnswerAs, output, Output}
use Rattle.sqlite_sql.specs.Program.{overlay}
use Rattle.sqlite_schema.specs.declared.schema.Schema.{Schema}
use Rattle.sqlite_schema.specs.declared.schema.Table.{Table}
use Rattle.sqlite_schema.specs.declared.schema.Keys.TheVariants.{Enforced}
use Rattle.sqlite_schema.specs.declared.command.Command.{Command}
use Rattle.sqlite_schema.specs.declared.command.Command.TheVariants.{Select, Insert, Update, Delete}
use Rattle.sqlite_schema.specs.declared.command.Source.TheVariants.{Values}
use Rattle.sqlite_rules.specs.Lists.{Has}
use Rattle.sqlite_rules.specs.Calls.{ids_of}
use Rattle.sqlite_rules.specs.Cast.{cast_row}
use Rattle.sqlite_rules.specs.Edit.{Edit, edit_of, edited, without_all, put_all, numbered, next_rowid, taken_by, id_in, Applies}
use Rattle.sqlite_rules.specs.Action.{works, Writes}
use Rattle.sqlite_rules.specs.declared.error.Rowids.TheVariants.{Chosen, Given, Above}
use Rattle.sqlite_rules.proofs.ListLemmas.{all_has, all_from, has_filtered, has_kept}
use Rattle.sqlite_rules.proofs.ProbeLemmas.{has_mapped, mapped_has}
use Rattle.sqlite_rules.proofs.PlaceLemmas.{given}
use Rattle.sqlite.specs.declared.error.Error.{Error}
use Rattle.sqlite.specs.Effect.{Database, value_rows}
use Rattle.sqlite.specs.Does.{Tally, Does, OnTable, OnRows, WritesRows, AtPlace}
use Rattle.sqlite.specs.declared.run.Mode.{Mode}
use Rattle.sqlite.specs.Rows.{Written, Task, stamped, rowids_for, count_of, higher, sequence, CountsIn}
use Rattle.sqlite.specs.Listing.{understood, reads_listing}
use Rattle.sqlite.specs.Clock.{timed}
use Rattle.sqlite.specs.State.{State, mode_of, Executes, Shown, ShowsRows, FailsToQuery, FailsToShow, IsNotRun, IsUnchanged, IsRolledBack}
use Rattle.sqlite.specs.State.{ExecutesIn, RunsCommand, shows_rows}
use Rattle.sqlite.specs.declared.error.Error.TheVariants.{ExecuteReturnedResults}
use Rattle.sql_facts.specs.States.{IsSettled, Stays}
use Rattle.sqlite.proofs.Callers.{IsPlain, command_of, statement_of, runs_as, reads_as, one_step}
use Rattle.sql_facts.proofs.Ending.{writes_settled}
use Rattle.sql_facts.proofs.Rows.{AreRows, AreIdsOf, without_picked, replaced, put_row-next}

-- the query over the rows of one table
abbrev pub over_table : ℕ → List Term → List Term → List (Term × Key) → Query
over_table tree tests shown order = record {
  from = inner tree end;
  filter = tests;
  group = None;
  project = shown;
  distinct = false;
  collations = [];
  order = order;
  limit = lit (Int (negsuc 0));
  offset = lit (Int (pos 0));
}

-- whether a row passes the tests
abbrev pub passes : List Term → Row → Row → Bool
passes tests params row = list_all (holds (params ∷ row ∷ [])) tests

-- what is shown of a row
abbrev pub seen : List Term → Row → Row → Row
seen shown params row = eval_all shown (params ∷ row ∷ [])

-- what was given is what is shown of the rows that pass
pub record AreSeen (tests shown : List Term) (params : Row) (rows given : List Row) : Type 0 where
  pub sound : (x : Row) → Has given x → (r : Row) × Has rows r × (passes tests params r ≡ true) × (x ≡ seen shown params r)
  pub complete : (r : Row) → Has rows r → passes tests params r ≡ true → Has given (seen shown params r)

matches_are : {X Y : Type 0} (p : X → Bool) (f : X → Y) (xs : List X) → flat_map (λ x. cond (p x) (f x ∷ []) []) xs ≡ map f (filter p xs)
matches_are p f [] = refl
matches_are p f (x ∷ xs) = elim (p x) as (λ b. cond b (f x ∷ []) [] ++ flat_map (λ x. cond (p x) (f x ∷ []) []) xs
    ≡ map f (cond b (x ∷ filter p xs) (filter p xs))) [
      | true ↦ ap (λ ys. f x ∷ ys) (matches_are p f xs)
      | false ↦ matches_are p f xs
    ]

has_permuted : {X : Type 0} (xs ys : List X) (x : X) → IsPermutation xs ys → Has ys x → Has xs x
has_permuted xs ys x same = all_has (Has xs) ys x (all-permutation (Has xs) xs ys same (all_from (Has xs) xs (λ e h. h)))

answer_seen : (tree : ℕ) (tests shown : List Term) (order : List (Term × Key)) (db : Trees) (params : Row) (given : List Row)
    → IsAnswerAs Null (over_table tree tests shown order) db params given → AreSeen tests shown params (db tree) given
answer_seen tree tests shown order db params given answer =
    let q = over_table tree tests shown order in
    let env = λ (r : Row). params ∷ r ∷ [] in
    let those = filter (passes tests params) (db tree) in
    let all = map env those in
    let kept : answer.kept ≡ map (output q) all =
    answer.distinct ∙ ap (map (output q)) (answer.grouped ∙ matches_are (passes tests params) env (db tree)) in
    record {
      sound = λ x h.
          let o = has_mapped (λ (k : Output). k.1) answer.ordered x (subst (λ l. Has l x) answer.shown h) in
          let e =
          has_mapped (output q) all o.0 (subst (λ l. Has l o.0) kept (has_permuted answer.kept answer.ordered o.0 answer.same o.1)) in
          let r = has_mapped env those e.0 e.1 in
          let it = has_filtered (passes tests params) (db tree) r.0 r.1 in
          (r.0, it.0, it.1, o.2 ∙ ap (λ (k : Output). k.1) (e.2 ∙ ap (output q) r.2));
      complete = λ r h ok.
          let o = output q (env r) in
          let there = subst (λ l. Has l o) (sym kept) (mapped_has (output q) all (env r)
          (mapped_has env those r (has_kept (passes tests params) (db tree) r h ok))) in
          subst (λ l. Has l (seen shown params r)) (sym answer.shown) (mapped_has (λ (k : Output). k.1) answer.ordered o
          (has_permuted answer.ordered answer.kept o (IsPermutation-sym _ _ answer.same) there));
    }

abbrev pub program : Query → Rattle.sqlite_schema.specs.declared.program.Program.Program
program q = record { lets = []; body = q }

-- the rowids of the rows that pass, where a rowid is shown first
ids_are : (tests shown : List Term) (params : Row) (rows given : List Row) → ((r : Row) → rowid (seen shown params r) ≡ rowid r)
    → AreSeen tests shown params rows given → AreIdsOf (passes tests params) rows (ids_of given)
ids_are tests shown params rows given first seen = record {
  sound = λ id h.
      let x = has_mapped (λ r. id_in (rowid r)) given id h in
      let r = seen.sound x.0 x.1 in
      (r.0, r.1, r.2, x.2 ∙ ap (λ y. id_in (rowid y)) r.3 ∙ ap id_in (first r.0));
  complete = λ r h ok. subst (Has (ids_of given)) (ap id_in (first r)) (mapped_has (λ y. id_in (rowid y)) given _ (seen.complete r h ok));
}

-- where a table of a schema is: no foreign key acts on its rows, and no row is laid over them
pub record IsTableAt (schema : Schema) (at : ℕ) (table : Table) : Type 0 where
  pub listed : slice_get schema.tables at ≡ Some table
  pub free : (olds news : List Row) → works schema Enforced 0 table.tree olds news ≡ []
  pub whole : (trees : Trees) → overlay trees [] table.tree ≡ trees table.tree

-- a text is this command, and nothing else is asked
abbrev pub Says : Schema → List ℕ → Command → Type 0
Says schema sql command = (command_of (understood schema sql) ≡ command) × IsPlain (understood schema sql)

-- the rows of a table that pass these tests, with these columns shown
abbrev pub those_of : Table → List Term → List Term → Rattle.sqlite_schema.specs.declared.program.Program.Program
those_of table tests shown = program (over_table table.tree tests shown [])

-- ---- what a connection is left as

unchanged_stays : (old new : State) → IsUnchanged old new → Stays old new
unchanged_stays old new h = record { now = h.0.now_is; committed = h.0.committed_is; mode = h.0.mode }

rolled_stays : (old new : State) → IsSettled old → IsTrue new.is_open → IsRolledBack old new → Stays old new
rolled_stays old new at live h =
    let undone = h.undone live in
    record { now = undone.0 ∙ at.committed; committed = undone.1; mode = h.autocommit ∙ sym at.autocommit }

shown_stays : (sql : List ℕ) (params : Row) (old new : State) (rows : List Row) → IsPlain (understood old.now.schema sql)
    → Shown sql params old new rows → Stays old new
unfolding Shown
shown_stays sql params old new rows plain h =
    let none = (subst IsPlain h.1.is plain).0 in
    unchanged_stays old new (subst (ShowsRows old new sql h.0 (timed params h.0.formats h.1.now) rows) none h.2).3

query_fails_stays : (sql : List ℕ) (params : Row) (old new : State) (e : Error) → IsPlain (understood old.now.schema sql) → IsSettled old
    → IsTrue new.is_open → FailsToQuery sql params old new e → Stays old new
unfolding FailsToQuery IsNotRun
query_fails_stays sql params old new e plain at live (inl (inl h)) = unchanged_stays old new h.1
query_fails_stays sql params old new e plain at live (inl (inr h)) = rolled_stays old new at live h.3
query_fails_stays sql params old new e plain at live (inr h) =
    let none = (subst IsPlain h.1.is plain).0 in
    unchanged_stays old new (subst (FailsToShow old new sql h.0 (timed params h.0.formats h.1.now) e) none h.2).3

-- a statement that failed outside a transaction has changed nothing
pub fails_stays : (sql : List ℕ) (params : Row) (old new : State) (e : Error) → IsSettled old → IsTrue new.is_open
    → Executes sql params old new (Err e) → Stays old new
unfolding ExecutesIn IsNotRun
fails_stays sql params old new e at live (inl (inl h)) = unchanged_stays old new h.1
fails_stays sql params old new e at live (inl (inr h)) = rolled_stays old new at live h.3
fails_stays sql params old new e at live (inr h) = ran (shows_rows false h.0) h.2
  where
    ran : (b : Bool) → MatchBool b ((◌≡◌ {A = Result ℕ Error} (Err e) (Err ExecuteReturnedResults)) × IsUnchanged old new)
        (RunsCommand old new sql h.0 (timed params h.0.formats h.1.now) (Err e)) → Stays old new
    ran true k = unchanged_stays old new k.1
    ran false (inl k) = unchanged_stays old new k.1
    ran false (inr k) = rolled_stays old new at live k.3

-- ---- queries

-- a text is this query, and the listing of the tables isn't asked
abbrev pub Queries : Schema → List ℕ → Command → Type 0
Queries schema sql command = Says schema sql command × (reads_listing schema sql ≡ false)

module _ (sql : List ℕ) (params : Row) (old new : State) (schema : Schema) (at : ℕ) (table : Table) (has : old.now.schema ≡ schema)
    (place : IsTableAt schema at table) (tests shown : List Term) (names : List (List ℕ))
    (text : Queries schema sql (Select (those_of table tests shown) names)) where
  shows : (rows : List Row) → Shown sql params old new rows → AreSeen tests shown params (old.now.trees table.tree) rows
  shows rows h =
      let read = reads_as sql params old new schema has _ text.0.0 text.0.1 text.1 rows h in
      subst (λ these. AreSeen tests shown params these rows) (place.whole old.now.trees)
      (answer_seen table.tree tests shown [] (overlay old.now.trees []) params rows (read.answer Null))

  -- however a query ends, what it shows is right, and it leaves all as it was
  pub query_ends : (result : Result (Vec Row Global) Error) → IsSettled old → IsTrue new.is_open
      → IfOk result (λ rows. Shown sql params old new rows.items)
      → IfErr result (FailsToQuery sql params old new)
      → IfOk result (λ rows. AreSeen tests shown params (old.now.trees table.tree) rows.items) × Stays old new
  query_ends (Ok rows) settled live ok err =
      (shows rows.items ok, shown_stays sql params old new rows.items (subst (λ s. IsPlain (understood s sql)) (sym has) text.0.1) ok)
  query_ends (Err e) settled live ok err =
      (tt, query_fails_stays sql params old new e (subst (λ s. IsPlain (understood s sql)) (sym has) text.0.1) settled live err)

-- ---- writes

-- a database with this schema, in which one table has these rows and the other tables have theirs; outside a
-- transaction all of it is committed
pub record Changes (schema : Schema) (old new : State) (tree : ℕ) (rows : List Row) : Type 0 where
  pub schema_is : new.now.schema ≡ schema
  pub rows_are : new.now.trees tree ≡ rows
  pub others : AllByRecursion (λ t. t.tree ≢ tree → new.now.trees t.tree ≡ old.now.trees t.tree) schema.tables
  pub settles : IsSettled old → IsSettled new

-- a count of the rows that pass says whether there is one
pub record CountsPassed (p : Row → Bool) (rows : List Row) (count : ℕ) : Type 0 where
  pub none : count ≡ 0 → (r : Row) → Has rows r → p r ≡ false
  pub some : count ≢ 0 → (r : Row) × Has rows r × (p r ≡ true)

seen_counted : (tests shown : List Term) (params : Row) (rows given : List Row) (count : ℕ) → AreSeen tests shown params rows given
    → count ≡ length given → CountsPassed (passes tests params) rows count
seen_counted tests shown params rows [] count found is = record {
  none = λ _ r h. elim (cases_Bool (passes tests params r)) [ inl ok ↦ absurd (found.complete r h ok) | inr fails ↦ fails ];
  some = λ there. absurd (there is);
}
seen_counted tests shown params rows (x ∷ given) count found is = record {
  none = λ zero. absurd (omega arith);
  some = λ _. let r = found.sound x (inl refl) in (r.0, r.1, r.2);
}

-- a part that gave a value did not stop on the way
pub went_on : {B E R : Type 0} {b : B} {Stops : E → Type 0} → ((stop : E) × Stops stop × (Ok b ≡ Err stop)) ⊎ R → R
went_on (inl stopped) = absurd (let e = stopped.2 in cc)
went_on (inr on) = on

module _ (sql : List ℕ) (params : Row) (old new : State) (schema : Schema) (at : ℕ) (table : Table) (has : old.now.schema ≡ schema)
    (place : IsTableAt schema at table) (count : ℕ) (h : Executes sql params old new (Ok count)) where
  abbrev db : Trees
  db = old.now.trees

  abbrev rows : List Row
  rows = db table.tree

  abbrev task : Task
  task = record { limit = old.step_limit; keys = Enforced; schema = schema; table = table; params = params }

  abbrev mode : Mode
  mode = mode_of old

  -- a command on the rows of the table makes the database of what it writes
  on_rows : (command : Command) (text : List ℕ) (tally : Tally)
      → ((out : Result (Tally × Database) (Option Error))
      → Does old.step_limit mode params (record old.now { schema = schema }) text None command out
      ≡ OnTable old.step_limit mode params (record old.now { schema = schema }) at (λ task. OnRows task mode None command db) out)
      → Does old.step_limit mode params old.now text None command (Ok (tally, new.now))
      → (w : Written) × WritesRows task db command (Ok w) × (new.now ≡ record { schema = schema; trees = w.trees })
      × (tally.rows ≡ Some (length w.rows))
  on_rows command text tally is did =
      let here =
      subst (λ s. Does old.step_limit mode params (record old.now { schema = s }) text None command (Ok (tally, new.now))) has did in
      let placed = subst (λ P. P) (is (Ok (tally, new.now))) here in
      let ran =
      subst (λ o. AtPlace (λ t. OnRows (record task { table = t }) mode None command db) o (Ok (tally, new.now))) place.listed placed in
      let done = went_on ran in
      let tested = went_on done.2 in
      let told = went_on tested.2 in
      (done.0, done.1, ap (λ (p : Tally × Database). p.1) (same_Ok told.2), ap (λ (p : Tally × Database). p.0.rows) (same_Ok told.2))

  -- the database after an edit of the table
  made : (edit : Edit) (written : Written) (next : Trees) (left : List Row) → new.now ≡ record { schema = schema; trees = written.trees }
      → written.trees ≡ next → edit.table ≡ table → Writes schema Enforced db edit (Ok next)
      → (Applies schema Enforced db edit next → edited db edit ≡ left)
      → (IsSettled old → IsSettled new) → Changes schema old new table.tree left
  made edit written next left is trees same writes rows_are settles =
      let none = subst (λ (t : Table). works schema Enforced 0 t.tree (taken_by db edit) edit.news ≡ []) (sym same)
      (place.free (taken_by db edit) edit.news) in
      let applies = one_step schema Enforced db next edit none writes in
      let now : new.now ≡ record { schema = schema; trees = next } = is ∙ ap (λ trees. record { schema = schema; trees = trees }) trees in
      record {
        schema_is = ap (λ (d : Database). d.schema) now;
        rows_are = ap (λ (d : Database). d.trees table.tree) now ∙ subst (λ (t : Table). next t.tree ≡ edited db edit) same applies.rows
            ∙ rows_are applies;
        others = subst (λ (d : Database). AllByRecursion (λ t. t.tree ≢ table.tree → d.trees t.tree ≡ db t.tree) schema.tables) (sym now)
            (subst (λ (e : Table). AllByRecursion (λ t. t.tree ≢ e.tree → next t.tree ≡ db t.tree) schema.tables) same applies.tables);
        settles = settles;
      }

  -- what a query of the table hands to a command, where the rowid is shown first
  rows_seen : (tests shown : List Term) (given : List Row)
      → IsAnswerAs Null (over_table table.tree tests shown []) (overlay db []) params given
      → AreSeen tests shown params rows given
  rows_seen tests shown given answer =
      subst (λ these. AreSeen tests shown params these given) (place.whole db)
      (answer_seen table.tree tests shown [] (overlay db []) params given answer)

  -- DELETE takes out the rows that pass
  pub deletes : (tests : List Term) → Says schema sql (Delete at (those_of table tests (col 1 0 ∷ []))) → AreRows rows
      → Changes schema old new table.tree (filter (λ r. not (passes tests params r)) rows)
  deletes tests text are =
      let command = Delete at (those_of table tests (col 1 0 ∷ [])) in
      let w = runs_as sql params old new schema has command text.0 text.1 count h in
      let it = on_rows command (statement_of sql (understood schema sql)) w.tally (λ _. refl) w.changed in
      let queried = went_on it.1 in
      let ids = ids_of queried.0 in
      let edited = went_on queried.2 in
      let found = rows_seen tests (col 1 0 ∷ []) queried.0 (queried.1.answer Null) in
      made (edit_of db table ids Given 0 []) it.0 edited.0 _ it.2 (ap (λ (w : Written). w.trees) (same_Ok edited.2)) refl edited.1
      (λ _. without_picked (passes tests params) rows ids are (ids_are tests (col 1 0 ∷ []) params rows queried.0 (λ _. refl) found))
      (λ was. writes_settled old new None command _ params count was w)

  -- UPDATE replaces each row that passes, at its rowid, and its count says whether a row passes
  pub updates : (tests more : List Term) (f : Row → Row) → Says schema sql (Update at (those_of table tests (col 1 0 ∷ more)))
      → AreRows rows
      → ((r : Row) → Has rows r → cast_row table (drop 1 (seen (col 1 0 ∷ more) params r)) ≡ f r)
      → ((r : Row) → Has rows r → rowid (f r) ≡ rowid r)
      → Changes schema old new table.tree (map (λ r. cond (passes tests params r) (f r) r) rows)
      × CountsPassed (passes tests params) rows count
  updates tests more f text are new_is same_id =
      let shown = col 1 0 ∷ more in
      let command = Update at (those_of table tests shown) in
      let w = runs_as sql params old new schema has command text.0 text.1 count h in
      let it = on_rows command (statement_of sql (understood schema sql)) w.tally (λ _. refl) w.changed in
      let queried = went_on it.1 in
      let given_rows = queried.0 in
      let ids = ids_of given_rows in
      let edited = went_on queried.2 in
      let edit = edit_of db table ids Given 1 given_rows in
      let found = rows_seen tests shown given_rows (queried.1.answer Null) in
      let cast = λ (s : Row). cast_row table (drop 1 s) in
      let news : edit.news ≡ map cast given_rows = given (without_all rows ids) (map cast given_rows) in
      let all = λ (applies : Applies schema Enforced db edit edited.0).
      replaced (passes tests params) rows ids are (ids_are tests shown params rows given_rows (λ _. refl) found) f same_id edit.news
      applies.keyed applies.fresh
      (λ x h.
      let s = has_mapped cast given_rows x (subst (λ l. Has l x) news h) in
      let r = found.sound s.0 s.1 in
      (r.0, r.1, r.2, s.2 ∙ ap cast r.3 ∙ new_is r.0 r.1))
      (λ r h ok. subst (λ l. Has l (f r)) (sym news)
      (subst (Has (map cast given_rows)) (new_is r h) (mapped_has cast given_rows (seen shown params r) (found.complete r h ok)))) in
      let counted : count ≡ length given_rows =
      w.counted ∙ ap (λ n. unwrap_or n 0) it.3 ∙ ap (λ (w : Written). length w.rows) (same_Ok edited.2) ∙ ap length news
      ∙ length-map given_rows cast in (
        made edit it.0 edited.0 _ it.2 (ap (λ (w : Written). w.trees) (same_Ok edited.2)) refl edited.1 all
            (λ was. writes_settled old new None command _ params count was w),
        seen_counted tests shown params rows given_rows count found counted,
      )

  -- INSERT of one row adds it at the end
  pub inserts : (terms : List Term) (width : ℕ) (source cells : Row) → Says schema sql (Insert at (Values terms width))
      → table.is_counted ≡ false
      → value_rows (stamped table params) width (length terms / width) terms ≡ source ∷ [] → cast_row table source ≡ Null ∷ cells
      → AreRows rows
      → Changes schema old new table.tree (rows ++ (Int (next_rowid rows) ∷ cells) ∷ [])
  inserts terms width source cells text uncounted sources cast_is are =
      let command = Insert at (Values terms width) in
      let w = runs_as sql params old new schema has command text.0 text.1 count h in
      let it = on_rows command (statement_of sql (understood schema sql)) w.tally (λ _. refl) w.changed in
      let sourced = went_on it.1 in
      let counter = went_on sourced.2 in
      let edited = went_on counter.2 in
      let counted = went_on edited.2 in
      let edit = edit_of db table [] (rowids_for table (count_of counter.0)) 0 sourced.0 in
      let top = fold higher (count_of counter.0) edit.news in
      let still : counted.0 ≡ edited.0 = same_Ok (subst (λ b. MatchBool (if b then is_lt (int_cmp (count_of counter.0) top) else false)
      (CountsIn task edited.0 counter.0 top (sequence schema) (Ok counted.0))
      (◌≡◌ {A = Result Trees (Option Error)} (Ok counted.0) (Ok edited.0))) uncounted counted.1) in
      let new_row = Int (next_rowid rows) ∷ cells in
      let news : edit.news ≡ new_row ∷ [] =
      ap (λ b. numbered (if b then Above (count_of counter.0) else Chosen) rows (map (λ s. cast_row table (drop 0 s)) sourced.0)) uncounted
      ∙ ap (λ these. numbered Chosen rows (map (λ s. cast_row table (drop 0 s)) these)) (sourced.1.1 ∙ sources)
      ∙ ap (λ row. numbered Chosen rows (row ∷ [])) cast_is in
      made edit it.0 edited.0 _ it.2 (ap (λ (w : Written). w.trees) (same_Ok counted.2) ∙ still) refl edited.1
      (λ _. ap (put_all rows) news ∙ put_row-next new_row rows are refl) (λ was. writes_settled old new None command _ params count was w)
