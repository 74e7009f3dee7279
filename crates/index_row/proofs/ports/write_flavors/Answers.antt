use Rattle.std.proofs.lemmas.Result.{on_ok_weaker}
use Rattle.index_row.proofs.PortBytes.{Adds-flavors}
use Rattle.index_row.proofs.ports.write_flavors.Goals as goal

pub returns : goal.returns
returns c =
    on_ok_weaker c.write_texts-3.result
    (λ last. Adds-flavors _ _ _ _ _ _ _ _ c.in_ok-write_texts.ensures c.in_ok-write_texts-2.ensures last c.chosen.ensures
    c.proper.ensures c.pseudo.ensures)
    c.write_texts-3.ensures
