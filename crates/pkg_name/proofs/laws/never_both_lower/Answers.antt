use Rattle.pkg_name.proofs.VersionLaws.{never_both_lower}
use Rattle.pkg_name.proofs.laws.never_both_lower.Goals as goal

pub returns : goal.returns
returns c = never_both_lower
