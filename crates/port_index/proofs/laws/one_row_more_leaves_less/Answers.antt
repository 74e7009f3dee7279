use Rattle.port_index.proofs.RowLemmas.{one_row_more}
use Rattle.port_index.proofs.laws.one_row_more_leaves_less.Goals as goal

pub returns : goal.returns
returns c = one_row_more
