use Rattle.std.proofs.lemmas.Result.{on_ok_weaker}
use Rattle.index_row.proofs.FaultNumbers.{Adds-fault_kind}
use Rattle.index_row.proofs.faults.write_kind.Goals as goal

pub returns : goal.returns
returns c = on_ok_weaker c.write_byte.result (Adds-fault_kind _ _ _ _ c.number.ensures) c.write_byte.ensures
