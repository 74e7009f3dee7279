use Rattle.mk_cond_tree.proofs.Complete.{one-tree}
use Rattle.mk_cond_tree.proofs.laws.tokens_have_one_tree.Goals as goal

pub returns : goal.returns
returns c = one-tree
