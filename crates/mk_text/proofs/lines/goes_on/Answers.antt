use Rattle.mk_text.proofs.Marks.{goes_on-from_ends}
use Rattle.mk_text.proofs.lines.goes_on.Goals as goal

pub returns : goal.returns
returns c = goes_on-from_ends c.args.piece.now c.ends_with.result c.ends_with.ensures.cases
