-- The mark so far, spread with the bytes that are left.
use Rattle.std.proofs.Common.{◌≡◌, length}
use Rattle.text_graph.specs.Slots.{spread_with_bytes}
use Rattle.text_graph.proofs.numbers.slot_of.Given as goal

abbrev pub invariant-loop-rest : goal.invariant-loop-rest
invariant-loop-rest l = spread_with_bytes l.mark l.rest ≡ spread_with_bytes 0 l.text

abbrev pub decreases-loop-rest : goal.decreases-loop-rest
decreases-loop-rest l = length l.rest
