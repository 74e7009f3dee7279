use Rattle.std.proofs.lemmas.Result.{on_ok_weaker}
use Rattle.index_row.specs.Ports.{depend}
use Rattle.index_row.proofs.Walks.{Adds-list}
use Rattle.index_row.proofs.depends.write_depends.Goals as goal

pub returns : goal.returns
returns c = on_ok_weaker c.put_depends.result (λ put. Adds-list depend _ _ _ _ _ c.in_ok-write_number.ensures put) c.put_depends.ensures
