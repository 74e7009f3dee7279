use Rattle.pkg_name.proofs.VersionLaws.{equal_as_texts}
use Rattle.pkg_name.proofs.laws.equal_as_texts.Goals as goal

pub returns : goal.returns
returns c = equal_as_texts
