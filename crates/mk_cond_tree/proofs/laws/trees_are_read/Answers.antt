use Rattle.mk_cond_tree.proofs.Complete.{trees-read}
use Rattle.mk_cond_tree.proofs.laws.trees_are_read.Goals as goal

pub returns : goal.returns
returns c = trees-read
