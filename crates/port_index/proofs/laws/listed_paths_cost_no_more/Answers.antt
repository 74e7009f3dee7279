use Rattle.port_index.proofs.PairLemmas.{listed_cost}
use Rattle.port_index.proofs.laws.listed_paths_cost_no_more.Goals as goal

pub returns : goal.returns
returns c = listed_cost
