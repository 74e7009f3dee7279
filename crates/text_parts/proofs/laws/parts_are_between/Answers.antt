use Rattle.text_parts.proofs.PartTexts.{parts_are_between}
use Rattle.text_parts.proofs.laws.parts_are_between.Goals as goal

pub returns : goal.returns
returns c = parts_are_between
