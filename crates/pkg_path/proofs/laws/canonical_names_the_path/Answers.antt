-- The law.
use Rattle.pkg_path.proofs.Rereading.{canonical_names}
use Rattle.pkg_path.proofs.laws.canonical_names_the_path.Goals as goal

pub returns : goal.returns
returns c = canonical_names
