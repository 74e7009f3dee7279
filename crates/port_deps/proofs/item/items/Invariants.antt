-- The items so far are those of the dependencies up to here.
use Rattle.std.proofs.Common.{◌≡◌, map, take}
use Rattle.port_deps.specs.Items.{item_of}
use Rattle.port_deps.proofs.item.items.Given as goal

abbrev pub invariant-loop-depend : goal.invariant-loop-depend
invariant-loop-depend l = l.found.items ≡ map item_of (take l.depend-index l.depend-items)
