-- The atoms of pieces.
use Rattle.std.proofs.Common.{◌≡◌, ℕ, List, [], ◌∷◌, refl, ap, ◌∙◌}
use Rattle.std.specs.List.{flat_map}
use Rattle.mk_ref.specs.Atoms.{TextAtom, Byte, EscapedDollar, Reference}
use Rattle.mk_ref.specs.Pieces.{TextPiece, LiteralPiece, EscapedDollarPiece, ReferencePiece, with_byte, pieces_of, atoms_in}

atoms-with_byte : (b : ℕ) (pieces : List TextPiece) → flat_map atoms_in (with_byte b pieces) ≡ Byte b ∷ flat_map atoms_in pieces
atoms-with_byte b [] = refl
atoms-with_byte b (LiteralPiece bytes ∷ pieces) = refl
atoms-with_byte b (EscapedDollarPiece ∷ pieces) = refl
atoms-with_byte b (ReferencePiece written name modifiers ∷ pieces) = refl

pub atoms-pieces : (atoms : List TextAtom) → flat_map atoms_in (pieces_of atoms) ≡ atoms
atoms-pieces [] = refl
atoms-pieces (Byte b ∷ atoms) = atoms-with_byte b (pieces_of atoms) ∙ ap (λ l. Byte b ∷ l) (atoms-pieces atoms)
atoms-pieces (EscapedDollar ∷ atoms) = ap (λ l. EscapedDollar ∷ l) (atoms-pieces atoms)
atoms-pieces (Reference written name modifiers ∷ atoms) = ap (λ l. Reference written name modifiers ∷ l) (atoms-pieces atoms)
