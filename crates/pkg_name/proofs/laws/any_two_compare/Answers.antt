use Rattle.pkg_name.proofs.VersionLaws.{any_two_compare}
use Rattle.pkg_name.proofs.laws.any_two_compare.Goals as goal

pub returns : goal.returns
returns c = any_two_compare
