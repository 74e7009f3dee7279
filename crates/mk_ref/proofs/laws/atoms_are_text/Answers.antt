use Rattle.mk_ref.proofs.AtomSteps.{atoms-text}
use Rattle.mk_ref.proofs.laws.atoms_are_text.Goals as goal

pub returns : goal.returns
returns c = atoms-text
