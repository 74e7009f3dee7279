use Rattle.text_parts.proofs.PartTexts.{written_is_cut_again}
use Rattle.text_parts.proofs.laws.written_is_cut_again.Goals as goal

pub returns : goal.returns
returns c = written_is_cut_again
