use Rattle.std.proofs.Common.{◌-◌, length}
use Rattle.mk_ref.proofs.PiecesSoFar.{CutSoFar}
use Rattle.mk_ref.proofs.pieces_of_text.pieces.Given as goal

abbrev pub invariant-loop-at : goal.invariant-loop-at
invariant-loop-at l = CutSoFar l.text l.found.items l.literal l.at

abbrev pub decreases-loop-at : goal.decreases-loop-at
decreases-loop-at l = length l.text - l.at
