use Rattle.port_index.proofs.AlikeLemmas.{alike_rows}
use Rattle.port_index.proofs.laws.alike_rows_list_the_same.Goals as goal

pub returns : goal.returns
returns c = alike_rows
