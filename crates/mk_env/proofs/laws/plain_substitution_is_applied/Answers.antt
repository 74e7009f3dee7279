use Rattle.mk_env.proofs.PlainSubstitution.{plain-applied}
use Rattle.mk_env.proofs.laws.plain_substitution_is_applied.Goals as goal

pub returns : goal.returns
returns c = plain-applied
