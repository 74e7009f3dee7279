use Rattle.mk_ref.proofs.PartSteps.{inside-alone}
use Rattle.mk_ref.proofs.laws.insides_are_cut_alone.Goals as goal

pub returns : goal.returns
returns c = inside-alone
