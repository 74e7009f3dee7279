-- The items so far are the dependencies up to here.
use Rattle.std.proofs.Common.{map, take, codes, Bor}
use Rattle.port_deps.specs.Roots.{RootEdgeValue}
use Rattle.plain_service.specs.ListBodies.{dependency_body}
use Rattle.plain_service.specs.JsonText.{HasItems}
use Rattle.plain_service.proofs.list_bodies.dependencies.Given as goal

abbrev pub invariant-loop-edge : goal.invariant-loop-edge
invariant-loop-edge l = HasItems l.out (codes "deps") (map (λ (edge : Bor RootEdgeValue). dependency_body edge.now.edge)
    (take l.edge-index l.edges))
