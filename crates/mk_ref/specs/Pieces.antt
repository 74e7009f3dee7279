-- The pieces of a text of the make language: its atoms, with the bytes that mean themselves put together.
use Rattle.std.specs.Prelude.{ℕ, List, [], ◌∷◌, map, Option}
use Rattle.mk_ref.specs.Atoms.{TextAtom, Byte, EscapedDollar, Reference}

-- a literal, one or more bytes that mean themselves; a pair, `$$`; or a reference, with all that it is
-- written as, its name and its modifiers
pub data TextPiece : Type 0 where
  LiteralPiece : List ℕ → TextPiece
  EscapedDollarPiece : TextPiece
  ReferencePiece : List ℕ → List ℕ → Option (List ℕ) → TextPiece

-- a byte before pieces: if they begin with a literal, it goes into that; else it is a literal of its own
abbrev pub with_byte : ℕ → List TextPiece → List TextPiece
with_byte b [] = LiteralPiece (b ∷ []) ∷ []
with_byte b (LiteralPiece bytes ∷ pieces) = LiteralPiece (b ∷ bytes) ∷ pieces
with_byte b (EscapedDollarPiece ∷ pieces) = LiteralPiece (b ∷ []) ∷ EscapedDollarPiece ∷ pieces
with_byte b (ReferencePiece written name modifiers ∷ pieces) = LiteralPiece (b ∷ []) ∷ ReferencePiece written name modifiers ∷ pieces

-- the pieces of atoms
abbrev pub pieces_of : List TextAtom → List TextPiece
pieces_of [] = []
pieces_of (Byte b ∷ atoms) = with_byte b (pieces_of atoms)
pieces_of (EscapedDollar ∷ atoms) = EscapedDollarPiece ∷ pieces_of atoms
pieces_of (Reference written name modifiers ∷ atoms) = ReferencePiece written name modifiers ∷ pieces_of atoms

-- the atoms that a piece is made of
abbrev pub atoms_in : TextPiece → List TextAtom
atoms_in (LiteralPiece bytes) = map Byte bytes
atoms_in EscapedDollarPiece = EscapedDollar ∷ []
atoms_in (ReferencePiece written name modifiers) = Reference written name modifiers ∷ []
