use Rattle.index_row.specs.Ports.{port_package}
use Rattle.index_row.proofs.Walks.{Written-more, Written-end}
use Rattle.index_row.proofs.packages.put_packages.Goals as goal

pub loop-one-preserved : goal.loop-one-preserved
loop-one-preserved c =
    Written-more port_package c.args.written.now c.loop-one.one-index _ _ _ c.one-item.result c.one-item.result
    c.loop-one-test.true c.one-item.is
    c.in_ok-write_package.ensures c.loop-one.invariant

pub returns : goal.returns
returns c = Written-end port_package c.args.written.now _ _ _ c.loop-one-test.false c.loop-one.invariant
