use Rattle.pkg_name.proofs.VersionLaws.{lower_than_lower}
use Rattle.pkg_name.proofs.laws.lower_than_lower.Goals as goal

pub returns : goal.returns
returns c = lower_than_lower
