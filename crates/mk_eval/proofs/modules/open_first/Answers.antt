use Rattle.std.proofs.Common.{◌<◌, ◌∙◌, length, sym, arith}
use Rattle.std.proofs.lemmas.Result.{err_from_is_err_and}
use Rattle.mk_base.specs.Meter.{IsLater-on}
use Rattle.mk_files.specs.AfterQuestions.{AfterQuestions-on, LeavesAtStop-on}
use Rattle.mk_eval.proofs.Searching.{first-on}
use Rattle.mk_eval.proofs.modules.open_first.Goals as goal

pub returns-in_err-opened-clause-asks : goal.returns-in_err-opened-clause-asks
returns-in_err-opened-clause-asks g c =
    let view = g.F.Names.view in
    let p = err_from_is_err_and c.from_residual.result c.from_residual.ensures.1 in
    rw (p.1, p.2)
    (LeavesAtStop-on g.F.Names.fails_with (view c.args.files.now) (view c.loop-tree.files) (view c.open_if_there.new.files)
    c.in_err-opened.field-0.0 c.loop-tree.invariant.asked c.in_err-opened.ensures.asks)

pub returns-then-is_some-clause-asks : goal.returns-then-is_some-clause-asks
returns-then-is_some-clause-asks g c =
    let view = g.F.Names.view in
    AfterQuestions-on (view c.args.files.now) (view c.loop-tree.files) (view c.open_if_there.new.files) c.loop-tree.invariant.asked
    c.in_ok-opened.ensures.asks

pub loop-tree-preserved : goal.loop-tree-preserved
loop-tree-preserved g c =
    let view = g.F.Names.view in
    let within : c.loop-tree.tree-index < length c.args.trees.now = omega (arith, c.loop-tree-test.true) in
    record {
      first = first-on c.args.here c.args.trees.now c.args.file.now c.args.budget.now (view c.args.files.now) (view c.loop-tree.files)
          (view c.open_if_there.new.files) c.loop-tree.tree-index c.loop-tree.budget c.open_if_there.new.budget
          c.loop-tree.invariant.first c.loop-tree.invariant.asked c.tree-item.result within c.tree-item.is c.as_str.result.now
          c.as_str.ensures.value c.in_ok-opened.opened
          (sym c.is_some.ensures ∙ c.if-is_some.false) c.in_ok-opened.ensures.gives;
      asked = AfterQuestions-on (view c.args.files.now) (view c.loop-tree.files) (view c.open_if_there.new.files)
          c.loop-tree.invariant.asked c.in_ok-opened.ensures.asks;
      later = IsLater-on c.loop-tree.invariant.later c.in_ok-opened.ensures.later;
    }
