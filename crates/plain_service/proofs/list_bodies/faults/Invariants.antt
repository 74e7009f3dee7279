-- The items so far are the faults of the roots up to here.
use Rattle.std.proofs.Common.{take, codes}
use Rattle.std.specs.List.{filter_map}
use Rattle.plain_service.specs.ListBodies.{root_fault_body}
use Rattle.plain_service.specs.JsonText.{HasItems}
use Rattle.plain_service.proofs.list_bodies.faults.Given as goal

abbrev pub invariant-loop-root : goal.invariant-loop-root
invariant-loop-root l = HasItems l.out (codes "faults") (filter_map root_fault_body (take l.root-index l.roots))
