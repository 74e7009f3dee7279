use Rattle.std.proofs.Common.{refl}
use Rattle.mk_ref.specs.AtomFacts.{IsFaultOf-left}
use Rattle.mk_env.proofs.mentions.cut.Goals as goal

pub returns-in-Err-Unclosed-clause-err : goal.returns-in-Err-Unclosed-clause-err
returns-in-Err-Unclosed-clause-err c = (
  refl,
  IsFaultOf-left c.args.text.now c.in-Err-Unclosed.field-0 c.in-Err-Unclosed.field-0-0
      c.in-Err-Unclosed.ensures.fault c.in-Err-Unclosed.field-0-is,
)
