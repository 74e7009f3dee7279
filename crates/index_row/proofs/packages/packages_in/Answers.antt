use Rattle.std.proofs.lemmas.Result.{err_from_is_err_and}
use Rattle.index_row.specs.Ports.{port_package}
use Rattle.index_row.proofs.Walks.{reads-on, reads-fail, reads-end}
use Rattle.index_row.proofs.packages.packages_in.Goals as goal

pub returns-in_err-one : goal.returns-in_err-one
returns-in_err-one c =
    let p = err_from_is_err_and c.from_residual-in_err-one.result c.from_residual-in_err-one.ensures.1 in
    rw (p.1, p.2)
    (reads-fail port_package c.in_err-one.field-0.0 _ c.args.count c.loop.counter _ _ c.loop-test.true
    c.in_err-one.ensures c.loop.invariant)

pub loop-preserved : goal.loop-preserved
loop-preserved c =
    rw c.in_ok-push.ensures.items
    (reads-on port_package _ c.args.count c.loop.counter _ _ _ _ c.loop-test.true c.in_ok-one.ensures c.loop.invariant)

pub returns : goal.returns
returns c = reads-end port_package _ c.args.count c.loop.counter _ _ c.loop-test.false c.loop.invariant
