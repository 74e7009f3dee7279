use Rattle.eval_ask.proofs.AnswerLemmas.{SpendsOnOne-answer}
use Rattle.eval_ask.proofs.laws.asking_spends.Goals as goal

pub returns : goal.returns
returns c = SpendsOnOne-answer
