use Rattle.ports_http.proofs.StreamLaws.{refusal_stays}
use Rattle.ports_http.proofs.laws.refusal_stays.Goals as goal

pub returns : goal.returns
returns c = refusal_stays
