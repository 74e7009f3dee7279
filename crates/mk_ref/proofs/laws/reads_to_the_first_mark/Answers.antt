use Rattle.mk_ref.proofs.ClosingMarks.{reads_to_mark}
use Rattle.mk_ref.proofs.laws.reads_to_the_first_mark.Goals as goal

pub returns : goal.returns
returns c = reads_to_mark
