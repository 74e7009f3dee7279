use Rattle.mk_ref.proofs.PlainTexts.{cut-plain}
use Rattle.mk_ref.proofs.laws.dollars_alone_part_texts.Goals as goal

pub returns : goal.returns
returns c = cut-plain
