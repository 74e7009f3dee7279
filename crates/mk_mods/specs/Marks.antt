-- The marks of a text of modifiers: its characters, pairs and references. References are taken whole.
use Rattle.std.specs.Prelude.{ℕ, Bool, false, ◌==◌, List, [], ◌∷◌, map, Option, Some, None}
use Rattle.std.specs.Char.{encode_utf8}
use Rattle.std.specs.Str.{chars}
use Rattle.std.specs.List.{flat_map}
use Rattle.general_facts.specs.Ascii.{dollar}
use Rattle.mk_ref.specs.Atoms.{atoms_of, left_of}
use Rattle.mk_ref.specs.Pieces.{TextPiece, LiteralPiece, EscapedDollarPiece, ReferencePiece, pieces_of}

-- a character outside references, a pair `$$`, or a reference as it is written
pub data TextMark : Type 0 where
  Char : ℕ → TextMark
  EscapedDollar : TextMark
  Written : List ℕ → TextMark

abbrev pub piece_marks : TextPiece → List TextMark
piece_marks (LiteralPiece bytes) = map Char (chars bytes)
piece_marks EscapedDollarPiece = EscapedDollar ∷ []
piece_marks (ReferencePiece written name modifiers) = Written written ∷ []

-- if this is left of a text after its atoms, the text has its marks only if nothing is left, that is, if
-- each reference ends
abbrev pub marks_if_whole : List ℕ → List TextMark → Option (List TextMark)
marks_if_whole [] marks = Some marks
marks_if_whole (b ∷ left) marks = None

-- the marks of a text; None if a reference doesn't end
unfoldable pub marks_of : List ℕ → Option (List TextMark)
marks_of text = marks_if_whole (left_of text) (flat_map piece_marks (pieces_of (atoms_of text)))

-- whether a mark is this character
abbrev pub is_char : ℕ → TextMark → Bool
is_char c (Char d) = d == c
is_char c EscapedDollar = false
is_char c (Written source) = false

-- what a mark is written as
abbrev pub mark_source : TextMark → List ℕ
mark_source (Char c) = encode_utf8 c
mark_source EscapedDollar = dollar ∷ dollar ∷ []
mark_source (Written source) = source
