use Rattle.plain_service.proofs.NeededOnce.{rests_on_each_once as once}
use Rattle.plain_service.proofs.laws.rests_on_each_once.Goals as goal

pub returns : goal.returns
returns c = once
