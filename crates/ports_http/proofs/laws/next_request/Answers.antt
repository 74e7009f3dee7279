use Rattle.ports_http.proofs.StreamLaws.{next_request}
use Rattle.ports_http.proofs.laws.next_request.Goals as goal

pub returns : goal.returns
returns c = next_request
