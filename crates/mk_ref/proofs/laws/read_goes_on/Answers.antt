use Rattle.mk_ref.proofs.AtomSteps.{up_to-cons}
use Rattle.mk_ref.proofs.laws.read_goes_on.Goals as goal

pub returns : goal.returns
returns c = up_to-cons
