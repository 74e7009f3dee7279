use Rattle.mk_cond_tree.proofs.Found.{conditions-read}
use Rattle.mk_cond_tree.proofs.laws.conditions_are_read.Goals as goal

pub returns : goal.returns
returns c = conditions-read
