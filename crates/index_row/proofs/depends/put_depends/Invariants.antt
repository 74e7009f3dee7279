-- What comes before this place is written.
use Rattle.index_row.specs.Ports.{depend}
use Rattle.index_row.proofs.Walks.{Written}
use Rattle.index_row.proofs.depends.put_depends.Given as goal

abbrev pub invariant-loop-depend : goal.invariant-loop-depend
invariant-loop-depend l = Written depend l.written l.depend-index l.initial.out.items l.out.items
