use Rattle.std.proofs.lemmas.Result.{on_ok_weaker}
use Rattle.index_row.proofs.FaultNumbers.{Adds-fault}
use Rattle.index_row.proofs.faults.write_fault.Goals as goal

pub returns : goal.returns
returns c =
    on_ok_weaker c.write_number.result
    (λ last. Adds-fault _ _ _ _ _ _ _ _ c.in_ok-write_kind.ensures c.in_ok-write_text.ensures last c.kind.ensures
    c.name.ensures c.line.ensures)
    c.write_number.ensures
