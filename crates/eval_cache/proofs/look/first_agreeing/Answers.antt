-- The traces are tried one after another.
use Rattle.std.proofs.Common.{◌∙◌, sym, subst, ℕ, Bool, arith}
use Rattle.std.proofs.lemmas.Result.{err_from_is_err_and}
use Rattle.read_trace.specs.Agreement.{IsAnswered}
use Rattle.read_trace.specs.declared.evaluation.Evaluation.{Evaluation}
use Rattle.eval_cache.proofs.LookLemmas.{IsOneOf-at, IsAnswered-checked, Checked-at, Checked-more, Checked-fails, Checked-alone, few-more}
use Rattle.eval_cache.proofs.look.first_agreeing.Goals as goal

pub returns-in_err-same-clause-fails : goal.returns-in_err-same-clause-fails
returns-in_err-same-clause-fails g c =
    let view = g.F.Names.view in
    let p = err_from_is_err_and c.from_residual.result c.from_residual.ensures.1 in
    rw (p.1, p.2)
    (Checked-fails g.F.Names.fails_with (view c.args.files.now) _ _ _ (view c.loop-evaluation.files) _ c.in_err-same.field-0.0
    c.loop-evaluation.invariant.so_far
    c.in_err-same.ensures.kind c.in_err-same.ensures.fails)

pub overflow_add-checked : goal.overflow_add-checked
overflow_add-checked g c =
    let few = few-more c.args.kept.now c.loop-evaluation.evaluation-index c.evaluation-item.result c.deref.result.now _
    (c.in_ok-same.same, c.in_ok-same.more) c.requires c.loop-evaluation-test.true c.evaluation-item.is c.deref.ensures
    c.in_ok-same.ensures.agreement in
    omega (arith, few.0, few.1, c.loop-evaluation.invariant.bound)

pub returns-in_err-clone-clause-fails : goal.returns-in_err-clone-clause-fails
returns-in_err-clone-clause-fails g c =
    let view = g.F.Names.view in
    let p = err_from_is_err_and c.from_residual-in_err-clone.result c.from_residual-in_err-clone.ensures.1 in
    rw (p.1, p.2)
    (Checked-alone g.F.Names.fails_with (view c.args.files.now) _ _ _ _ (c.in_ok-same.same, c.in_ok-same.more)
    (view c.loop-evaluation.files) _
    (Checked-at (view c.args.files.now) c.args.kept.now c.loop-evaluation.evaluation-index c.evaluation-item.result c.deref.result.now
    c.loop-evaluation.checked (view c.loop-evaluation.files)
    c.loop-evaluation-test.true c.evaluation-item.is c.deref.ensures c.loop-evaluation.invariant.so_far)
    c.in_ok-same.ensures.agreement c.in_ok-same.ensures.asks)

pub returns-then-same-clause-bound : goal.returns-then-same-clause-bound
returns-then-same-clause-bound g c =
    let few = few-more c.args.kept.now c.loop-evaluation.evaluation-index c.evaluation-item.result c.deref.result.now _
    (c.in_ok-same.same, c.in_ok-same.more) c.requires c.loop-evaluation-test.true c.evaluation-item.is c.deref.ensures
    c.in_ok-same.ensures.agreement in
    omega (arith, few.0, few.1, c.loop-evaluation.invariant.bound)

pub returns-then-same-clause-found : goal.returns-then-same-clause-found
returns-then-same-clause-found g c =
    let few = few-more c.args.kept.now c.loop-evaluation.evaluation-index c.evaluation-item.result c.deref.result.now _
    (c.in_ok-same.same, c.in_ok-same.more) c.requires c.loop-evaluation-test.true c.evaluation-item.is c.deref.ensures
    c.in_ok-same.ensures.agreement in
    let copied = c.in_ok-clone.ensures.cases ∙ sym c.deref.ensures in (
      IsOneOf-at c.args.kept.now c.loop-evaluation.evaluation-index c.evaluation-item.result c.in_ok-clone.field-0.value
          c.loop-evaluation-test.true c.evaluation-item.is c.in_ok-clone.ensures.cases,
      subst (λ (e : Evaluation). IsAnswered (g.F.Names.view c.args.files.now).files e.trace) (sym copied)
          (IsAnswered-checked (g.F.Names.view c.args.files.now) _ _ _ (g.F.Names.view c.loop-evaluation.files)
          (c.in_ok-same.same, c.in_ok-same.more) c.deref.result.now.trace
          c.loop-evaluation.invariant.so_far c.in_ok-same.ensures.agreement c.if-same.true),
      omega (arith, few.2),
    )

pub loop-evaluation-preserved : goal.loop-evaluation-preserved
loop-evaluation-preserved g c =
    let view = g.F.Names.view in
    let answer : Bool × ℕ = (c.in_ok-same.same, c.in_ok-same.more) in
    let few = few-more c.args.kept.now c.loop-evaluation.evaluation-index c.evaluation-item.result c.deref.result.now _ answer c.requires
    c.loop-evaluation-test.true c.evaluation-item.is c.deref.ensures c.in_ok-same.ensures.agreement in
    record {
      bound = omega (arith, few.0, few.1, c.loop-evaluation.invariant.bound);
      so_far = Checked-more (view c.args.files.now) _ _ _ _ answer (view c.loop-evaluation.files) _
          (Checked-at (view c.args.files.now) c.args.kept.now c.loop-evaluation.evaluation-index c.evaluation-item.result c.deref.result.now
          c.loop-evaluation.checked (view c.loop-evaluation.files)
          c.loop-evaluation-test.true c.evaluation-item.is c.deref.ensures c.loop-evaluation.invariant.so_far)
          c.in_ok-same.ensures.agreement c.in_ok-same.ensures.asks c.if-same.false;
    }
