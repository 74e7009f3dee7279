use Rattle.ports_http.proofs.StreamLaws.{cuts_on}
use Rattle.ports_http.proofs.laws.cuts_on.Goals as goal

pub returns : goal.returns
returns c = cuts_on
