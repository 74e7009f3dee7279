-- Pieces as places in their text.
use Rattle.std.specs.Prelude.{◌≡◌, ◌⊎◌, ◌<◌, ℕ, ◌+◌, List, [], ◌∷◌, length, drop, Option, Some, None, option_map, ⊤}
use Rattle.std.specs.Option.{IfSome}
use Rattle.mk_text.specs.declared.word_spans.Span.{Span}
use Rattle.mk_text.specs.Words.{span_text, IsSpanOf}
use Rattle.mk_ref.specs.declared.pieces_of_text.Reference.{Reference}
use Rattle.mk_ref.specs.declared.pieces_of_text.Piece.{Piece}
use Rattle.mk_ref.specs.declared.pieces_of_text.Piece.TheVariants as v
use Rattle.mk_ref.specs.declared.pieces_of_text.PiecesFault.{PiecesFault}
use Rattle.mk_ref.specs.declared.pieces_of_text.PiecesFault.TheVariants as f
use Rattle.mk_ref.specs.Atoms.{left_of}
use Rattle.mk_ref.specs.Pieces.{TextPiece, LiteralPiece, EscapedDollarPiece, ReferencePiece}

-- a piece, with the parts of the text at its places
abbrev pub piece_in_text : List ℕ → Piece → TextPiece
piece_in_text text (v.Literal span) = LiteralPiece (span_text text span)
piece_in_text text (v.EscapedDollar span) = EscapedDollarPiece
piece_in_text text (v.Reference reference) =
    ReferencePiece (span_text text reference.whole) (span_text text reference.name) (option_map (span_text text) reference.modifiers)

-- the place of a whole piece
abbrev pub span_of_piece : Piece → Span
span_of_piece (v.Literal span) = span
span_of_piece (v.EscapedDollar span) = span
span_of_piece (v.Reference reference) = reference.whole

-- pieces follow one another directly, from one place up to another, and none of them is empty
abbrev pub FollowFrom : ℕ → List Piece → ℕ → Type 0
FollowFrom start [] end = start ≡ end
FollowFrom start (piece ∷ pieces) end =
    ((span_of_piece piece).start ≡ start) × (start < (span_of_piece piece).end) × FollowFrom (span_of_piece piece).end pieces end

-- where the modifiers of a reference end, or its name if it has none
abbrev pub inside_end : Span → Option Span → ℕ
inside_end name None = name.end
inside_end name (Some modifiers) = modifiers.end

-- a reference of one letter: its name is its second byte
pub record IsLetterPlaced (reference : Reference) : Type 0 where
  pub name_start : reference.name.start ≡ reference.whole.start + 1
  pub name_end : reference.name.end ≡ reference.whole.start + 2
  pub whole_end : reference.whole.end ≡ reference.whole.start + 2
  pub modifiers : reference.modifiers ≡ None

-- A reference with marks. Its name begins after its first two bytes. Its modifiers begin directly after the
-- colon that directly follows the name. Its closing mark directly follows the modifiers, or the name if it
-- has none.
pub record IsMarkedPlaced (reference : Reference) : Type 0 where
  pub name_start : reference.name.start ≡ reference.whole.start + 2
  pub modifiers : IfSome reference.modifiers (λ modifiers. modifiers.start ≡ reference.name.end + 1)
  pub whole_end : reference.whole.end ≡ inside_end reference.name reference.modifiers + 1

-- the places of a reference can be cut out of the text, and are inside one another as they are written
pub record IsReferenceIn (text : List ℕ) (reference : Reference) : Type 0 where
  pub whole : IsSpanOf text reference.whole
  pub name : IsSpanOf text reference.name
  pub modifiers : IfSome reference.modifiers (λ modifiers. IsSpanOf text modifiers)
  pub placed : IsLetterPlaced reference ⊎ IsMarkedPlaced reference

-- the places of a piece can be cut out of the text; a pair is two bytes
abbrev pub IsPieceIn : List ℕ → Piece → Type 0
IsPieceIn text (v.Literal span) = IsSpanOf text span
IsPieceIn text (v.EscapedDollar span) = IsSpanOf text span × (span.end ≡ span.start + 2)
IsPieceIn text (v.Reference reference) = IsReferenceIn text reference

-- the text from a place on is what is left of it after its atoms, and begins a reference that doesn't end
pub record IsUnclosedAt (text : List ℕ) (at : ℕ) : Type 0 where
  pub inside : at < length text
  pub left : left_of text ≡ drop at text

-- why a text has no pieces: a reference doesn't end, and this is where it begins; or memory ran out, which
-- says nothing
abbrev pub IsFaultOf : List ℕ → PiecesFault → Type 0
IsFaultOf text (f.Unclosed at) = IsUnclosedAt text at
IsFaultOf text (f.Memory _) = ⊤
