use Rattle.pkg_name.proofs.VersionLaws.{other_way_round}
use Rattle.pkg_name.proofs.laws.other_way_round.Goals as goal

pub returns : goal.returns
returns c = other_way_round
