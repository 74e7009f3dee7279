use Rattle.std.proofs.lemmas.Result.{on_ok_weaker}
use Rattle.index_row.proofs.PortBytes.{Adds-depend}
use Rattle.index_row.proofs.depends.write_depend.Goals as goal

pub returns : goal.returns
returns c =
    on_ok_weaker c.write_text-2.result
    (λ last. Adds-depend _ _ _ _ _ _ _ _ c.in_ok-write_kind.ensures c.in_ok-write_text.ensures last c.kind.ensures
    c.subpackage.ensures c.item.ensures)
    c.write_text-2.ensures
