use Rattle.std.proofs.Common.{◌-◌, length}
use Rattle.mk_ref.proofs.ScanSteps.{MarksOpen}
use Rattle.mk_ref.proofs.ends.after_mark.Given as goal

abbrev pub invariant-loop-at : goal.invariant-loop-at
invariant-loop-at l = MarksOpen l.bytes l.start l.closing l.around.items l.mark l.at

abbrev pub decreases-loop-at : goal.decreases-loop-at
decreases-loop-at l = length l.bytes - l.at
