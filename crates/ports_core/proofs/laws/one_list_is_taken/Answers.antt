use Rattle.ports_core.proofs.OneListLemmas.{one_list}
use Rattle.ports_core.proofs.laws.one_list_is_taken.Goals as goal

pub returns : goal.returns
returns c = one_list
