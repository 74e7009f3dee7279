-- The dependencies so far are those of the items so far.
use Rattle.std.proofs.Common.{◌≡◌, map}
use Rattle.port_index.specs.Dependencies.{edge_at}
use Rattle.port_index.specs.Seen.{entries_in, known_in, item_seen}
use Rattle.port_index.proofs.root_edges.edges_of_all.Given as goal

abbrev pub invariant-loop-rooted : goal.invariant-loop-rooted
invariant-loop-rooted l = l.found.items ≡ map (edge_at (known_in (entries_in l.rows))) (map item_seen l.yielded)
