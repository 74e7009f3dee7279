use Rattle.ports_http.proofs.StreamLaws.{request_stays}
use Rattle.ports_http.proofs.laws.request_stays.Goals as goal

pub returns : goal.returns
returns c = request_stays
