-- The steps over the dependencies up to here.
use Rattle.std.proofs.Common.{◌≡◌, map, take}
use Rattle.ports_query.specs.Edges.{edges_lent}
use Rattle.ports_query.specs.Reach.{arrows_of, step_seen}
use Rattle.ports_query.proofs.reach.steps_over_some.Given as goal

abbrev pub invariant-loop-edge : goal.invariant-loop-edge
invariant-loop-edge l = map step_seen l.steps.items ≡ arrows_of l.kinds (edges_lent (take l.edge-index l.edges))
