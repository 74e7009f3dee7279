use Rattle.std.proofs.Common.{arith}
use Rattle.mk_step.specs.Views.{point_of}
use Rattle.mk_step.proofs.Coming.{cheap}
use Rattle.mk_step.proofs.machine.Machine.spent.Goals as goal

pub returns-clause-within : goal.returns-clause-within
returns-clause-within c = λ files settings name flavors asked has.
    omega (arith, cheap files settings name flavors asked (point_of c.args.self.now) has, c.spent.ensures.units)
