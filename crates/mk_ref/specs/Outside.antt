-- What of a line is outside references.
use Rattle.std.specs.Prelude.{ℕ, List, [], ◌∷◌, ◌++◌, map}
use Rattle.std.specs.List.{flat_map}
use Rattle.general_facts.specs.Ascii.{dollar}
use Rattle.mk_ref.specs.Atoms.{TextAtom, Byte, EscapedDollar, Reference, atoms_of, left_of}
use Rattle.mk_ref.specs.Pieces.{TextPiece, LiteralPiece, EscapedDollarPiece, ReferencePiece}

-- a dollar for each byte of a text
abbrev pub dollars : List ℕ → List ℕ
dollars text = map (λ b. dollar) text

-- a byte that means itself, as it is; dollars in place of a pair and of a reference
abbrev pub covered : TextAtom → List ℕ
covered (Byte b) = b ∷ []
covered EscapedDollar = dollar ∷ dollar ∷ []
covered (Reference written name modifiers) = dollars written

-- the same for a piece
abbrev pub covered_piece : TextPiece → List ℕ
covered_piece (LiteralPiece bytes) = bytes
covered_piece EscapedDollarPiece = dollar ∷ dollar ∷ []
covered_piece (ReferencePiece written name modifiers) = dollars written

-- A text in which dollars cover all references and pairs, and a reference that doesn't end, which reaches
-- to the end of the text (this project's choice). Every other byte keeps its place.
unfoldable pub outside : List ℕ → List ℕ
outside text = flat_map covered (atoms_of text) ++ dollars (left_of text)
