use Rattle.std.proofs.Common.{codes}
use Rattle.plain_service.specs.PortBody.{depend_body}
use Rattle.plain_service.proofs.WritingLemmas.{list_added}
use Rattle.plain_service.proofs.port_bodies.write_depends.Goals as goal

pub returns : goal.returns
returns c =
    list_added (codes "depends") depend_body c.args.depends.now c.loop-one.one-index
    c.loop-one-test.false c.loop-one.invariant c.end_array.ensures
