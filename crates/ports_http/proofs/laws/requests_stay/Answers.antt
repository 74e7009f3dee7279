use Rattle.ports_http.proofs.StreamLaws.{requests_stay}
use Rattle.ports_http.proofs.laws.requests_stay.Goals as goal

pub returns : goal.returns
returns c = requests_stay
