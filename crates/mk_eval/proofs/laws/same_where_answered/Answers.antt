-- The law.
use Rattle.mk_eval.proofs.Logged.{same-where-answered}
use Rattle.mk_eval.proofs.laws.same_where_answered.Goals as goal

pub returns : goal.returns
returns c = same-where-answered
