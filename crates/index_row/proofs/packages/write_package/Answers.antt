use Rattle.std.proofs.lemmas.Result.{on_ok_weaker}
use Rattle.index_row.proofs.PortBytes.{Adds-package}
use Rattle.index_row.proofs.packages.write_package.Goals as goal

pub returns : goal.returns
returns c =
    on_ok_weaker c.write_text-2.result
    (λ last. Adds-package _ _ _ _ _ _ _ _ c.in_ok-write_text.ensures c.in_ok-write_name.ensures last c.subpackage.ensures
    c.name.ensures c.comment.ensures)
    c.write_text-2.ensures
