-- The law.
use Rattle.pkg_path.proofs.Rereading.{without-IsPath}
use Rattle.pkg_path.proofs.laws.stays_a_path.Goals as goal

pub returns : goal.returns
returns c = without-IsPath
