-- A path without its subpackage is a path.
use Rattle.pkg_path.proofs.Rereading.{without-IsPath}
use Rattle.pkg_path.proofs.path.PkgPath.without_sub.Goals as goal

pub invariant_of-result : goal.invariant_of-result
invariant_of-result c = without-IsPath _ c.self.invariant
