use Rattle.ports_http.proofs.StreamLaws.{cuts_from}
use Rattle.ports_http.proofs.laws.cuts_from.Goals as goal

pub returns : goal.returns
returns c = cuts_from
