use Rattle.std.proofs.Common.{subst}
use Rattle.std.proofs.lemmas.Result.{on_ok_weaker}
use Rattle.index_row.specs.Ports.{port}
use Rattle.index_row.specs.Answers.{Adds}
use Rattle.index_row.proofs.PortBytes.{Adds-port, same_port}
use Rattle.index_row.proofs.ports.write_port.Goals as goal

pub returns : goal.returns
returns c =
    on_ok_weaker c.write_depends.result
    (λ last. subst (Adds port _ _) (same_port _ _ _ _ _ _ c.flavors.ensures c.maintainer.ensures c.categories.ensures
    c.packages.ensures c.depends.ensures)
    (Adds-port _ _ _ _ _ _ _ _ _ _ _ c.in_ok-write_flavors.ensures c.in_ok-write_text.ensures c.in_ok-write_texts.ensures
    c.in_ok-write_packages.ensures last))
    c.write_depends.ensures
