use Rattle.text_parts.proofs.CutTexts.{cut_is_its_text}
use Rattle.text_parts.proofs.laws.cut_is_its_text.Goals as goal

pub returns : goal.returns
returns c = cut_is_its_text
