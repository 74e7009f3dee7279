use Rattle.mk_text.proofs.RunSteps.{LinesSoFar}
use Rattle.mk_text.proofs.lines.logical_lines.Given as goal

abbrev pub invariant-loop-piece : goal.invariant-loop-piece
invariant-loop-piece l = LinesSoFar l.text l.lines.items l.open l.number l.piece-iterator
