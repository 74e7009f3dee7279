use Rattle.port_index.proofs.PairLemmas.{evaluations_are}
use Rattle.port_index.proofs.laws.makefiles_are_evaluated.Goals as goal

pub returns : goal.returns
returns c = evaluations_are
