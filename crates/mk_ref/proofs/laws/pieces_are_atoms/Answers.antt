use Rattle.mk_ref.proofs.PieceAtoms.{atoms-pieces}
use Rattle.mk_ref.proofs.laws.pieces_are_atoms.Goals as goal

pub returns : goal.returns
returns c = atoms-pieces
