-- A reference among the pieces is one of the text.
use Rattle.std.proofs.Common.{◌≡◌, ◌≢◌, ◌∙◌, ℕ, List, [], ◌∷◌, ◌||◌, map, true, refl, sym, ap}
use Rattle.std.specs.List.{list_any}
use Rattle.mk_ref.specs.AtomFacts.{IsFaultOf-left}
use Rattle.mk_ref.specs.declared.pieces_of_text.Piece.{Piece}
use Rattle.mk_ref.specs.declared.pieces_of_text.Piece.TheVariants as v
use Rattle.mk_ref.specs.Atoms.{atoms_of, left_of}
use Rattle.mk_ref.specs.Pieces.{TextPiece, pieces_of}
use Rattle.mk_ref.specs.Places.{piece_in_text}
use Rattle.mk_cond.specs.Leaves.{is_reference, is_reference_piece, refers, has_reference}
use Rattle.mk_cond.proofs.lone_sides.has_reference.Goals as goal

same_piece : (text : List ℕ) (piece : Piece) → is_reference_piece piece ≡ is_reference (piece_in_text text piece)
same_piece text (v.Literal span) = refl
same_piece text (v.EscapedDollar span) = refl
same_piece text (v.Reference reference) = refl

same_pieces : (text : List ℕ) (found : List Piece) → list_any is_reference_piece found ≡ list_any is_reference
    (map (piece_in_text text) found)
same_pieces text [] = refl
same_pieces text (piece ∷ found) = ap (λ b. b || list_any is_reference_piece found) (same_piece text piece)
    ∙ ap (λ b. is_reference (piece_in_text text piece) || b) (same_pieces text found)

whole : (text : List ℕ) (found : List TextPiece) → left_of text ≡ [] → found ≡ pieces_of (atoms_of text)
    → list_any is_reference found ≡ has_reference text
unfolding has_reference
whole text found ends are = ap (list_any is_reference) are ∙ ap (λ left. refers left (pieces_of (atoms_of text))) (sym ends)

some_left : (left : List ℕ) (found : List TextPiece) → left ≢ [] → true ≡ refers left found
some_left [] found some = absurd (some refl)
some_left (b ∷ left) found some = refl

cut_short : (text : List ℕ) → left_of text ≢ [] → true ≡ has_reference text
unfolding has_reference
cut_short text some = some_left (left_of text) (pieces_of (atoms_of text)) some

pub returns-in-Ok : goal.returns-in-Ok
returns-in-Ok c =
    let text = c.args.text.now in
    let found = c.in-Ok.found.items in
    c.refers.ensures ∙ ap (list_any is_reference_piece) c.as_slice.ensures.value ∙ same_pieces text found
    ∙ whole text (map (piece_in_text text) found) c.in-Ok.ensures.whole c.in-Ok.ensures.pieces

pub returns-in-Err-Unclosed : goal.returns-in-Err-Unclosed
returns-in-Err-Unclosed c = cut_short c.args.text.now (IsFaultOf-left c.args.text.now c.in-Err-Unclosed.field-0 c.in-Err-Unclosed.field-0-0
    c.in-Err-Unclosed.ensures.fault c.in-Err-Unclosed.field-0-is)
