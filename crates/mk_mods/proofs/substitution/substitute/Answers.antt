use Rattle.mk_mods.proofs.Limits.{ok-within, err-within}
use Rattle.mk_mods.proofs.substitution.substitute.Goals as goal

pub returns-clause-ok : goal.returns-clause-ok
returns-clause-ok c = ok-within c.join_replaced.result _ c.join_replaced.ensures.ok

pub returns-clause-err : goal.returns-clause-err
returns-clause-err c = err-within c.join_replaced.result _ c.join_replaced.ensures.err
