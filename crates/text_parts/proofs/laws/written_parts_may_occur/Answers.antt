use Rattle.text_parts.proofs.PartTexts.{written_parts_may_occur}
use Rattle.text_parts.proofs.laws.written_parts_may_occur.Goals as goal

pub returns : goal.returns
returns c = written_parts_may_occur
