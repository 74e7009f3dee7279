use Rattle.mk_text.proofs.WordSteps.{WordsSoFar}
use Rattle.mk_text.proofs.word_spans.words.Given as goal

abbrev pub invariant-loop-at : goal.invariant-loop-at
invariant-loop-at l = WordsSoFar l.text l.spans.items l.start l.at
