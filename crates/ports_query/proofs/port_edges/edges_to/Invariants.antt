-- Those found up to here.
use Rattle.std.proofs.Common.{◌≡◌, take}
use Rattle.ports_query.specs.Edges.{edges_lent, edges_to_of}
use Rattle.ports_query.proofs.port_edges.edges_to.Given as goal

abbrev pub invariant-loop-edge : goal.invariant-loop-edge
invariant-loop-edge l = edges_lent l.found.items ≡ edges_to_of l.kinds l.path (take l.edge-index l.edges)
