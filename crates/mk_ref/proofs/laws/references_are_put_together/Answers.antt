use Rattle.mk_ref.proofs.AtomSteps.{atoms-together}
use Rattle.mk_ref.proofs.laws.references_are_put_together.Goals as goal

pub returns : goal.returns
returns c = atoms-together
