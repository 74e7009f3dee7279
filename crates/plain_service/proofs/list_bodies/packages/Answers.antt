use Rattle.std.proofs.Common.{map, codes}
use Rattle.plain_service.specs.ListBodies.{listed_body}
use Rattle.plain_service.proofs.WritingLemmas.{all_items}
use Rattle.plain_service.proofs.list_bodies.packages.Goals as goal

pub returns : goal.returns
returns c =
    let packages = c.args.packages.now in
    c.end_list.ensures (codes "packages") (map listed_body packages)
    (all_items listed_body packages c.loop-one.one-index c.loop-one-test.false c.loop-one.invariant)
