-- The law.
use Rattle.port_rules.proofs.Costs.{records-few}
use Rattle.port_rules.proofs.laws.records_cost_few.Goals as goal

pub returns : goal.returns
returns c = records-few
