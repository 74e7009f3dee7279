-- Those found up to here.
use Rattle.std.proofs.Common.{◌≡◌, take}
use Rattle.ports_query.specs.Edges.{edges_lent, first_edges_of}
use Rattle.ports_query.proofs.port_edges.first_edges.Given as goal

abbrev pub invariant-loop-edge : goal.invariant-loop-edge
invariant-loop-edge l = edges_lent l.found.items ≡ first_edges_of l.kinds l.path (take l.edge-index l.edges)
