-- The law.
use Rattle.mk_step.specs.Views.{point_of}
use Rattle.mk_step.proofs.Coming.{first-spent}
use Rattle.mk_step.proofs.laws.asked_as_spent.Goals as goal

pub returns : goal.returns
returns c = λ files machine settings name flavors asked has. first-spent files settings name flavors asked (point_of machine) has
