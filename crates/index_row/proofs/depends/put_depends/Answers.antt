use Rattle.index_row.specs.Ports.{depend}
use Rattle.index_row.proofs.Walks.{Written-more, Written-end}
use Rattle.index_row.proofs.depends.put_depends.Goals as goal

pub loop-depend-preserved : goal.loop-depend-preserved
loop-depend-preserved c =
    Written-more depend c.args.written.now c.loop-depend.depend-index _ _ _ c.depend-item.result c.depend-item.result
    c.loop-depend-test.true c.depend-item.is
    c.in_ok-write_depend.ensures c.loop-depend.invariant

pub returns : goal.returns
returns c = Written-end depend c.args.written.now _ _ _ c.loop-depend-test.false c.loop-depend.invariant
