use Rattle.mk_glob.proofs.LoopLemmas.{Goes, left}
use Rattle.mk_glob.proofs.matcher.glob.Given as goal

abbrev pub invariant-loop-behind : goal.invariant-loop-behind
invariant-loop-behind l = Goes l.pattern l.word l.rest l.back l.unclosed

abbrev pub decreases-loop-behind : goal.decreases-loop-behind
decreases-loop-behind l = left l.pattern l.word l.rest l.back
