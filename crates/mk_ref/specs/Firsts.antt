-- The piece that a text has at a place.
use Rattle.std.specs.Prelude.{◌≡◌, ◌<◌, ◌≤◌, ℕ, ◌+◌, nat_lt, List, [], ◌∷◌, length, drop, Option, Some, None}
use Rattle.std.specs.Prelude.{option_map, unwrap_or, if◌then◌else◌}
use Rattle.mk_ref.specs.declared.ends.Inside.{Inside}
use Rattle.mk_ref.specs.declared.pieces_of_text.Reference.{Reference}
use Rattle.mk_ref.specs.declared.pieces_of_text.Piece.{Piece}
use Rattle.mk_ref.specs.declared.pieces_of_text.Piece.TheVariants as v
use Rattle.mk_ref.specs.Atoms.{TextAtom, Byte, EscapedDollar, Reference as ReferenceAtom, first_atom}
use Rattle.mk_ref.specs.Pieces.{TextPiece, EscapedDollarPiece, ReferencePiece}
use Rattle.mk_ref.specs.Places.{piece_in_text, span_of_piece, IsPieceIn}

-- the literal from a place up to another, unless it is empty
abbrev pub literal_at : ℕ → ℕ → List Piece
literal_at start end = if nat_lt start end then v.Literal (record { start = start; end = end }) ∷ [] else []

-- the reference with marks that begins at a place and has this inside
abbrev pub reference_at : ℕ → Inside → Reference
reference_at at inside = record {
  whole = record { start = at; end = inside.close + 1 };
  name = record { start = at + 2; end = unwrap_or inside.colon inside.close };
  modifiers = option_map (λ colon. record { start = colon + 1; end = inside.close }) inside.colon;
}

-- a pair or a reference, which is a piece of its own
abbrev pub IsAlone : TextAtom → TextPiece → Type 0
IsAlone (Byte b) piece = ⊥
IsAlone EscapedDollar piece = piece ≡ EscapedDollarPiece
IsAlone (ReferenceAtom written name modifiers) piece = piece ≡ ReferencePiece written name modifiers

-- the piece, a pair or a reference, that a text has at a place
pub record IsPieceAt (text : List ℕ) (at : ℕ) (piece : Piece) : Type 0 where
  pub atom : TextAtom
  pub first : first_atom (drop at text) ≡ Some (atom, drop (span_of_piece piece).end text)
  pub alone : IsAlone atom (piece_in_text text piece)
  pub start : (span_of_piece piece).start ≡ at
  pub later : at < (span_of_piece piece).end
  pub within : (span_of_piece piece).end ≤ length text
  pub places : IsPieceIn text piece

-- the same, or none if a reference begins there that doesn't end
abbrev pub BeginsAt : List ℕ → ℕ → Option Piece → Type 0
BeginsAt text at None = first_atom (drop at text) ≡ None
BeginsAt text at (Some piece) = IsPieceAt text at piece
