use Rattle.std.proofs.Common.{codes}
use Rattle.plain_service.specs.PortBody.{package_body}
use Rattle.plain_service.proofs.WritingLemmas.{list_added}
use Rattle.plain_service.proofs.port_bodies.write_packages.Goals as goal

pub returns : goal.returns
returns c =
    list_added (codes "packages") package_body c.args.packages.now c.loop-one.one-index
    c.loop-one-test.false c.loop-one.invariant c.end_array.ensures
