use Rattle.index_keep.proofs.LeftLemmas.{RefreshingPays-all}
use Rattle.index_keep.proofs.laws.refreshing_pays.Goals as goal

pub returns : goal.returns
returns c = RefreshingPays-all c.one_row_more_leaves_less.ensures c.makefiles_are_evaluated.ensures c.evaluations_cost_few.ensures
