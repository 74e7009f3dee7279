use Rattle.ports_http.proofs.StreamLaws.{one_cutting}
use Rattle.ports_http.proofs.laws.one_cutting.Goals as goal

pub returns : goal.returns
returns c = one_cutting
