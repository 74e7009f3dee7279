use Rattle.ports_core.proofs.IsolationLemmas.{equal_slices_alike}
use Rattle.ports_core.proofs.laws.equal_slices_are_told_alike.Goals as goal

pub returns : goal.returns
returns c = equal_slices_alike
