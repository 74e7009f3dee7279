use Rattle.mk_ref.proofs.ClosingMarks.{left_unclosed}
use Rattle.mk_ref.proofs.laws.only_the_unclosed_is_left.Goals as goal

pub returns : goal.returns
returns c = left_unclosed
