use Rattle.mk_ref.proofs.PartSteps.{atoms-whole}
use Rattle.mk_ref.proofs.laws.parts_are_whole.Goals as goal

pub returns : goal.returns
returns c = atoms-whole
