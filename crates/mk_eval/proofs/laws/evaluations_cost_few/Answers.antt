-- The law.
use Rattle.mk_eval.proofs.Costs.{cost-few}
use Rattle.mk_eval.proofs.laws.evaluations_cost_few.Goals as goal

pub returns : goal.returns
returns c = cost-few
