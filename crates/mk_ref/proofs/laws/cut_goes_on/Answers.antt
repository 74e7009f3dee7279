use Rattle.mk_ref.proofs.AtomSteps.{cut-next}
use Rattle.mk_ref.proofs.laws.cut_goes_on.Goals as goal

pub returns : goal.returns
returns c = cut-next
