use Rattle.port_index.proofs.RowLemmas.{known_rows}
use Rattle.port_index.proofs.laws.known_rows_are_enough.Goals as goal

pub returns : goal.returns
returns c = known_rows
