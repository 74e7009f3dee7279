use Rattle.std.proofs.lemmas.Result.{err_from_is_err_and}
use Rattle.index_row.specs.Ports.{depend}
use Rattle.index_row.proofs.Walks.{reads-on, reads-fail, reads-end}
use Rattle.index_row.proofs.depends.depends_in.Goals as goal

pub returns-in_err-depend : goal.returns-in_err-depend
returns-in_err-depend c =
    let p = err_from_is_err_and c.from_residual-in_err-depend.result c.from_residual-in_err-depend.ensures.1 in
    rw (p.1, p.2)
    (reads-fail depend c.in_err-depend.field-0.0 _ c.args.count c.loop.counter _ _ c.loop-test.true
    c.in_err-depend.ensures c.loop.invariant)

pub loop-preserved : goal.loop-preserved
loop-preserved c =
    rw c.in_ok-push.ensures.items
    (reads-on depend _ c.args.count c.loop.counter _ _ _ _ c.loop-test.true c.in_ok-depend.ensures c.loop.invariant)

pub returns : goal.returns
returns c = reads-end depend _ c.args.count c.loop.counter _ _ c.loop-test.false c.loop.invariant
