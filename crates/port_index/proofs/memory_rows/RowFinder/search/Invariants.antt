-- What is ahead is still of the rows, and grows shorter.
use Rattle.std.proofs.Common.{length}
use Rattle.port_index.specs.Finders.{IsFinderOf, ahead_of}
use Rattle.port_index.specs.declared.memory_rows.MemoryRows.{MemoryRows}
use Rattle.port_index.proofs.memory_rows.RowFinder.search.Given as goal

abbrev pub invariant-loop-self : goal.invariant-loop-self
invariant-loop-self l = (rows : MemoryRows) → IsFinderOf rows l.initial.self → IsFinderOf rows l.self

abbrev pub decreases-loop-self : goal.decreases-loop-self
decreases-loop-self l = length (ahead_of l.self)
