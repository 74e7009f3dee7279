use Rattle.std.proofs.Common.{◌-◌, length}
use Rattle.mk_ref.proofs.InsideSteps.{InsideSoFar}
use Rattle.mk_ref.proofs.ends.inside_from.Given as goal

abbrev pub invariant-loop-at : goal.invariant-loop-at
invariant-loop-at l = InsideSoFar l.bytes l.start l.closing l.colon l.at

abbrev pub decreases-loop-at : goal.decreases-loop-at
decreases-loop-at l = length l.bytes - l.at
