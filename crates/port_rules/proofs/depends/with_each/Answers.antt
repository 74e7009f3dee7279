use Rattle.std.proofs.Common.{◌∙◌, ap, Err}
use Rattle.std.proofs.lemmas.Result.{err_from_is_err_and}
use Rattle.port_rules.specs.Depends.{add_depends}
use Rattle.port_rules.proofs.Exits.{told, walk-on, walk-stops, walk-ends}
use Rattle.port_rules.proofs.depends.with_each.Goals as goal

pub returns-in_err-found : goal.returns-in_err-found
returns-in_err-found c =
    let p = err_from_is_err_and c.from_residual.result c.from_residual.ensures.1 in
    told _ _ _ _ _ (p.1 ∙ ap Err p.2)
    (rw c.loop-subpackage.invariant
    (walk-stops (add_depends c.args.env.now) c.args.subpackages.now c.loop-subpackage.subpackage-index c.loop-subpackage.found.items
    c.subpackage-item.result c.deref.result.now c.loop-subpackage.budget
    c.in_err-found.field-0.0 c.with_depends.new.budget c.loop-subpackage-test.true c.subpackage-item.is c.deref.ensures
    c.in_err-found.ensures))

pub loop-subpackage-preserved : goal.loop-subpackage-preserved
loop-subpackage-preserved c =
    c.loop-subpackage.invariant
    ∙ walk-on (add_depends c.args.env.now) c.args.subpackages.now c.loop-subpackage.subpackage-index c.loop-subpackage.found.items
    c.in_ok-found.found.items c.subpackage-item.result c.deref.result.now
    c.loop-subpackage.budget c.with_depends.new.budget c.loop-subpackage-test.true c.subpackage-item.is
    c.deref.ensures c.in_ok-found.ensures

pub returns : goal.returns
returns c =
    c.loop-subpackage.invariant
    ∙ walk-ends (add_depends c.args.env.now) c.args.subpackages.now c.loop-subpackage.subpackage-index c.loop-subpackage.found.items
    c.loop-subpackage.budget c.loop-subpackage-test.false
