use Rattle.std.proofs.lemmas.Result.{on_ok_weaker}
use Rattle.index_row.specs.Ports.{port_package}
use Rattle.index_row.proofs.Walks.{Adds-list}
use Rattle.index_row.proofs.packages.write_packages.Goals as goal

pub returns : goal.returns
returns c = on_ok_weaker c.put_packages.result (λ put. Adds-list port_package _ _ _ _ _ c.in_ok-write_number.ensures put)
    c.put_packages.ensures
