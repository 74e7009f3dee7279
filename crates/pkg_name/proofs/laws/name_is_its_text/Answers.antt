use Rattle.pkg_name.proofs.NameTexts.{name_is_its_text}
use Rattle.pkg_name.proofs.laws.name_is_its_text.Goals as goal

pub returns : goal.returns
returns c = name_is_its_text
