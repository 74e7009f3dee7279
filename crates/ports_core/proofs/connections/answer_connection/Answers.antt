use Rattle.std.proofs.Common.{rules}
use Rattle.ports_core.proofs.OpenedLemmas.{is_eq-nat_cmp_other}
use Rattle.ports_core.proofs.connections.answer_connection.Goals as goal

pub returns-in-Some-clause-others : goal.returns-in-Some-clause-others
returns-in-Some-clause-others c = λ d ne. ((c.get_mut.follows.holds c.answer.new.self).3 (search rules)).2 d
    (is_eq-nat_cmp_other c.args.conn d ne)
