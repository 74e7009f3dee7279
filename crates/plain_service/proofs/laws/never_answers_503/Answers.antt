use Rattle.plain_service.proofs.NeverFails.{never_503}
use Rattle.plain_service.proofs.laws.never_answers_503.Goals as goal

pub returns : goal.returns
returns c = never_503
