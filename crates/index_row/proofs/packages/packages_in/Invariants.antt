-- What was read so far, with what is still read, is all of it.
use Rattle.std.proofs.Common.{◌≡◌, ◌-◌}
use Rattle.index_row.specs.Reads.{counted_items}
use Rattle.index_row.specs.Ports.{port_package}
use Rattle.index_row.proofs.Walks.{with_front}
use Rattle.index_row.proofs.packages.packages_in.Given as goal

abbrev pub invariant-loop : goal.invariant-loop
invariant-loop l = with_front l.found.items (counted_items port_package (l.count - l.counter) l.rest) ≡ counted_items
    port_package l.count l.bytes
