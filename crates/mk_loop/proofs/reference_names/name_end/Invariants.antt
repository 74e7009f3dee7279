use Rattle.std.proofs.Common.{◌-◌, length}
use Rattle.mk_loop.proofs.NameSteps.{NameSoFar}
use Rattle.mk_loop.proofs.reference_names.name_end.Given as goal

abbrev pub invariant-loop-at : goal.invariant-loop-at
invariant-loop-at l = NameSoFar l.bytes l.start l.closing l.at

abbrev pub decreases-loop-at : goal.decreases-loop-at
decreases-loop-at l = length l.bytes - l.at
