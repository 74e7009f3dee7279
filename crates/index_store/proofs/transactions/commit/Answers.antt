-- One transaction: all is committed, or all is as it was.
use Rattle.std.proofs.Common.{◌≡◌, ◌∙◌, ap, subst, sym, refl, rules, OnOk, OnErr}
use Rattle.sqlite_trees.specs.declared.memory.MemStore.{MemStore}
use Rattle.sqlite.specs.Held.{Held}
use Rattle.sqlite.proofs.Callers.{memory_is_clean}
use Rattle.sql_facts.specs.States.{Stays, state_of}
use Rattle.sql_facts.proofs.Ending.{rolled_back, on_error, commits, commit_fails}
use Rattle.index_store.specs.PortTable.{Rows, Holds, HoldsInside, rows_of}
use Rattle.index_store.specs.Marks.{IsAllowedChange, rows_after}
use Rattle.index_store.proofs.Keeping.{commit_holds}
use Rattle.index_store.proofs.Settling.{after_settled}
use Rattle.index_store.proofs.transactions.commit.Goals as goal

pub make-requires-clause-free : goal.make-requires-clause-free
make-requires-clause-free c =
    subst (λ (h : Held MemStore). IsAllowedChange c.args.has_earlier c.args.change (rows_of h))
    (sym c.transaction-tx.ensures.begun) c.requires.free

pub returns-in_err-make-clause-err : goal.returns-in_err-make-clause-err
returns-in_err-make-clause-err c =
    let old = state_of c.args.conn.now in
    let mid = state_of c.make.new.tx.conn.now in
    let end = c.drop-tx.new.self.0 in
    let same : end ≡ c.conn-1.given.0 = search rules in
    let kept : mid.committed ≡ old.committed =
    c.make.ensures.kept.committed ∙ ap (λ (h : Held MemStore). (state_of h).committed) c.transaction-tx.ensures.begun in
    on_error c.from_residual.result (subst (λ h. Stays old (state_of h)) same
    (rolled_back old mid (state_of end) c.requires.kept.kept.settled kept refl (c.drop-tx.ensures.undone (memory_is_clean end))))

pub returns : goal.returns
returns c =
    let old = state_of c.args.conn.now in
    let was = rows_of c.args.conn.now in
    let mid = state_of c.make.new.tx.conn.now in
    let end = c.commit.new.self.0 in
    let same : end ≡ c.conn-2-1.given.0 = search rules in
    let kept : mid.committed ≡ old.committed =
    c.make.ensures.kept.committed ∙ ap (λ (h : Held MemStore). (state_of h).committed) c.transaction-tx.ensures.begun in
    let these : Rows = rows_after c.args.change was in
    let made = subst (λ (h : Held MemStore). HoldsInside mid (rows_after c.args.change (rows_of h))) c.transaction-tx.ensures.begun
    c.in_ok-make.ensures.made in
    let ok : OnOk c.commit.result (Holds (state_of end) these) =
    commit_holds c.commit.result mid (state_of end) these made (after_settled was c.requires.kept.kept.rows c.args.change)
    (commits c.commit.result mid (state_of end) (c.commit.ensures.ok (memory_is_clean end))) in
    let err : OnErr c.commit.result (Stays old (state_of end)) =
    commit_fails c.commit.result old mid (state_of end) c.requires.kept.kept.settled kept made.inside refl
    (c.commit.ensures.err (memory_is_clean end)) in
    record {
      ok = subst (λ h. OnOk c.commit.result (Holds (state_of h) these)) same ok;
      err = subst (λ h. OnErr c.commit.result (Stays old (state_of h))) same err;
    }
