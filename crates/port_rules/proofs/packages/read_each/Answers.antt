use Rattle.std.proofs.Common.{◌∙◌, ◌++◌, ◌∷◌, [], ap, sym, Ok, Err}
use Rattle.std.proofs.lemmas.Result.{err_from_is_err_and}
use Rattle.mk_base.specs.Outcome.{after, give}
use Rattle.text_parts.specs.Cuts.{now_all}
use Rattle.port_rules.specs.Packages.{add_package, package_of}
use Rattle.port_rules.proofs.Exits.{told, stops-too, walk-on, walk-stops, walk-ends}
use Rattle.port_rules.proofs.packages.read_each.Goals as goal

pub returns-in_err-read_package : goal.returns-in_err-read_package
returns-in_err-read_package c =
    let p = err_from_is_err_and c.from_residual.result c.from_residual.ensures.1 in
    let turn = add_package c.args.env.now (now_all c.args.marks.now) in
    told _ _ _ _ _ (p.1 ∙ ap Err p.2)
    (rw c.loop-subpackage.invariant
    (walk-stops turn c.args.subpackages.now c.loop-subpackage.subpackage-index c.loop-subpackage.found.items c.subpackage-item.result
    c.deref.result.now c.loop-subpackage.budget
    c.in_err-read_package.field-0.0 c.read_package.new.budget c.loop-subpackage-test.true c.subpackage-item.is c.deref.ensures
    (stops-too c.in_err-read_package.field-0.0 c.read_package.new.budget
    (package_of c.args.env.now (now_all c.args.marks.now) c.deref.result.now c.loop-subpackage.budget)
    (λ found. give (c.loop-subpackage.found.items ++ found ∷ []))
    c.in_err-read_package.ensures)))

pub loop-subpackage-preserved : goal.loop-subpackage-preserved
loop-subpackage-preserved c =
    c.loop-subpackage.invariant
    ∙ walk-on (add_package c.args.env.now (now_all c.args.marks.now)) c.args.subpackages.now c.loop-subpackage.subpackage-index
    c.loop-subpackage.found.items c.push.new.self.items c.subpackage-item.result c.deref.result.now
    c.loop-subpackage.budget c.read_package.new.budget c.loop-subpackage-test.true c.subpackage-item.is c.deref.ensures
    (ap (λ end. after end (λ found. give (c.loop-subpackage.found.items ++ found ∷ []))) c.in_ok-read_package.ensures
    ∙ ap (λ items. Ok (items, c.read_package.new.budget)) (sym c.in_ok-push.ensures.items))

pub returns : goal.returns
returns c =
    c.loop-subpackage.invariant
    ∙ walk-ends (add_package c.args.env.now (now_all c.args.marks.now)) c.args.subpackages.now c.loop-subpackage.subpackage-index
    c.loop-subpackage.found.items c.loop-subpackage.budget c.loop-subpackage-test.false
