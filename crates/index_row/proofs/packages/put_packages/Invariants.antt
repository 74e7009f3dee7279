-- What comes before this place is written.
use Rattle.index_row.specs.Ports.{port_package}
use Rattle.index_row.proofs.Walks.{Written}
use Rattle.index_row.proofs.packages.put_packages.Given as goal

abbrev pub invariant-loop-one : goal.invariant-loop-one
invariant-loop-one l = Written port_package l.written l.one-index l.initial.out.items l.out.items
