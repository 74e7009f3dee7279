-- The items so far follow those that were there.
use Rattle.std.proofs.Common.{◌≡◌, ◌++◌, map}
use Rattle.port_index.specs.Dependencies.{item_at}
use Rattle.port_index.specs.Seen.{item_seen}
use Rattle.port_index.proofs.root_edges.put_items.Given as goal

abbrev pub invariant-loop-item : goal.invariant-loop-item
invariant-loop-item l = map item_seen l.found.items ≡ map item_seen l.initial.found.items ++ map (item_at l.path) l.yielded
