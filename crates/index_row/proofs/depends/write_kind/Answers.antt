use Rattle.std.proofs.lemmas.Result.{on_ok_weaker}
use Rattle.index_row.proofs.PortBytes.{Adds-depend_kind}
use Rattle.index_row.proofs.depends.write_kind.Goals as goal

pub returns : goal.returns
returns c = on_ok_weaker c.write_byte.result (Adds-depend_kind _ _ _ _ c.number_of.ensures) c.write_byte.ensures
