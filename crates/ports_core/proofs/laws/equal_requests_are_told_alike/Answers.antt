use Rattle.ports_core.proofs.AlikeLemmas.{told_alike}
use Rattle.ports_core.proofs.laws.equal_requests_are_told_alike.Goals as goal

pub returns : goal.returns
returns c = told_alike
