-- What holds of the database between the calls goes on to hold.
use Rattle.std.proofs.Common.{◌≡◌, ℕ, Bool, false, [], Result, Ok, Err, OnOk, OnErr, refl, sym, ap, subst, ◌∙◌}
use Rattle.sqlite.specs.Effect.{Database}
use Rattle.sqlite.specs.State.{State, Executes}
use Rattle.sqlite.specs.declared.error.Error.{Error}
use Rattle.sql_facts.specs.Filled.{AreFilled, entries_of_rows}
use Rattle.sql_facts.specs.States.{IsSettled, Stays}
use Rattle.sql_facts.proofs.Creating.{creates}
use Rattle.sql_facts.proofs.Keyed.{none_filled}
use Rattle.index_store.specs.declared.statements.Part.TheVariants.{Earlier, Current}
use Rattle.index_store.specs.declared.transactions.Change.{Change}
use Rattle.index_store.specs.PortTable.{Rows, ByPath, AreSettled, AllowsFor, IsKeptWith, IsFormed, Holds, HoldsInside}
use Rattle.index_store.specs.PortTable.{rows_at, entries_at, no_rows, all_of, layout, tree_number, earlier_schema, current_table}
use Rattle.index_store.specs.PortTable.{create_current}
use Rattle.index_store.specs.Marks.{Changes, IsAllowedChange, changed_by, rows_after}
use Rattle.index_store.proofs.Answering.{all_found}
use Rattle.index_store.proofs.Changing.{each_part, by_part}
use Rattle.index_store.proofs.Fixed.{create_current_text}
use Rattle.index_store.proofs.Settling.{after_all, after_allowed}

-- ---- the database begins

pub creates_current : (old new : State) → old.in_transaction ≡ false → old.now.schema ≡ earlier_schema → old.now.trees 0 ≡ [] → (count : ℕ)
    → Executes create_current [] old new (Ok count) → Holds new no_rows
creates_current old new auto has empty count h =
    let it = creates create_current old new earlier_schema current_table has auto create_current_text refl count h in
    let earlier : new.now.trees 0 ≡ [] = it.others.0 ∙ empty in
    let current : new.now.trees 2 ≡ [] = it.empty in
    let none : rows_at new.now.trees ≡ no_rows =
    by_part _ _ (ap (entries_of_rows (layout Earlier)) earlier) (ap (entries_of_rows (layout Current)) current) in
    let filled = each_part (λ part. AreFilled (layout part) (new.now.trees (tree_number part)))
    (none_filled (layout Earlier) (new.now.trees 0) earlier) (none_filled (layout Current) (new.now.trees 2) current) in
    record {
      kept = record {
        settled = it.settled;
        formed = record { schema = it.schema_is; rows = filled };
        rows = subst AreSettled (sym none) (record { staying = λ part path. refl; apart = λ path there. refl });
      };
      are = none;
    }

-- ---- nothing has changed

pub still_are : (old new : State) → Stays old new → rows_at new.now.trees ≡ rows_at old.now.trees
still_are old new h = ap (λ (d : Database). rows_at d.trees) h.now

pub still_entries : (old new : State) → Stays old new → entries_at new.now.trees ≡ entries_at old.now.trees
still_entries old new h = ap (λ (d : Database). entries_at d.trees) h.now

pub still_with : (has_earlier : Bool) (old new : State) → IsKeptWith has_earlier old → Stays old new → IsKeptWith has_earlier new
still_with has_earlier old new kept h = record {
  kept = record {
    settled =
        record { autocommit = h.mode ∙ kept.kept.settled.autocommit; committed = h.committed ∙ kept.kept.settled.committed ∙ sym h.now };
    formed = subst IsFormed (sym h.now) kept.kept.formed;
    rows = subst AreSettled (sym (still_are old new h)) kept.kept.rows;
  };
  earlier = subst (AllowsFor has_earlier) (sym (still_are old new h)) kept.earlier;
}

-- ---- however a call ends

-- a transaction with these rows is committed
pub commit_holds : {A : Type 0} (r : Result A Error) (mid new : State) (rows : Rows) → HoldsInside mid rows → AreSettled rows
    → OnOk r (IsSettled new × (new.now ≡ mid.now)) → OnOk r (Holds new rows)
commit_holds (Ok a) mid new rows inside settled h =
    let are = ap (λ (d : Database). rows_at d.trees) h.1 ∙ inside.are in
    record {
      kept = record { settled = h.0; formed = subst IsFormed (sym h.1) inside.formed; rows = subst AreSettled (sym are) settled };
      are = are;
    }
commit_holds (Err e) mid new rows inside settled h = tt

module _ (has_earlier : Bool) (change : Change) (old new : State) (kept : IsKeptWith has_earlier old)
    (free : IsAllowedChange has_earlier change (rows_at old.now.trees)) where
  abbrev after : Rows
  after = rows_after change (rows_at old.now.trees)

  pub change_kept : {A : Type 0} (r : Result A Error) → OnOk r (Holds new after) → OnErr r (Stays old new) → IsKeptWith has_earlier new
  change_kept (Ok a) ok err = record {
    kept = ok.kept;
    earlier = subst (AllowsFor has_earlier) (sym ok.are) (after_allowed has_earlier change (rows_at old.now.trees) free kept.earlier);
  }
  change_kept (Err e) ok err = still_with has_earlier old new kept err

  pub change_made : Holds new after → Changes change (entries_at old.now.trees) (entries_at new.now.trees)
  change_made h path =
      all_found new.now.trees path ∙ ap (λ (rows : Rows). all_of rows path) h.are
      ∙ after_all (rows_at old.now.trees) kept.kept.rows change path
      ∙ ap (λ (rows : ByPath). changed_by change rows path) (λ i other. sym (all_found old.now.trees other) i)
