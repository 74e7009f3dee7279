use Rattle.ports_core.proofs.OpenedLemmas.{is_eq-nat_cmp_other}
use Rattle.ports_core.proofs.connections.close_done.Goals as goal

pub returns-clause-others : goal.returns-clause-others
returns-clause-others c = λ d ne. c.remove-connection.ensures.updates.2 d (is_eq-nat_cmp_other c.args.conn d ne)
