-- The pieces of a text, as far as they are found.
use Rattle.std.proofs.Common.{◌≡◌, ℕ, ◌+◌, ◌<◌, ◌≤◌, Bool, true, false, cond, nat_lt, List, [], ◌∷◌, ◌++◌, length, map, drop, get_or, Some}
use Rattle.std.proofs.Common.{None, All, IsUtf8, IsCharBoundary, refl, sym, ap, subst, ◌∙◌, arith, append_assoc}
use Rattle.std.specs.Prelude.{slice_range}
use Rattle.std.proofs.lemmas.Bool.{ltb-true, ltb-false}
use Rattle.std.proofs.lemmas.List.{drop_more, map-append}
use Rattle.std.proofs.lemmas.List.Elements.{All-nil, All-cons, All-append}
use Rattle.std.proofs.Math.Seq.{drop-length}
use Rattle.std.proofs.lemmas.Str.{IsCharBoundary-start, IsCharBoundary-end}
use Rattle.general_facts.specs.Lists.{slice_range-one}
use Rattle.mk_ref.specs.declared.pieces_of_text.Piece.{Piece}
use Rattle.mk_ref.specs.declared.pieces_of_text.Piece.TheVariants as v
use Rattle.mk_ref.specs.Atoms.{TextAtom, Byte, EscapedDollar, Reference, opening_of, atom_before, first_atom, cut_on, cut, atoms_of}
use Rattle.mk_ref.specs.Atoms.{left_of}
use Rattle.mk_ref.specs.Pieces.{TextPiece, LiteralPiece, with_byte, pieces_of}
use Rattle.mk_ref.specs.Places.{piece_in_text, span_of_piece, FollowFrom, IsPieceIn, IsUnclosedAt}
use Rattle.mk_ref.specs.Firsts.{literal_at, IsAlone, IsPieceAt}
use Rattle.mk_ref.proofs.AtomSteps.{cut-next, first-nil}
use Rattle.mk_ref.proofs.ScanSteps.{first-opening}
use Rattle.mk_ref.proofs.InsideSteps.{range_join, range_none, length-range}

-- the pieces found before `literal`, and the bytes from there up to `at`, which mean themselves
pub record CutSoFar (text : List ℕ) (found : List Piece) (literal at : ℕ) : Type 0 where
  pub pieces : map (piece_in_text text) found ++ pieces_of (map Byte (slice_range text literal at) ++ atoms_of (drop at text)) ≡
      pieces_of (atoms_of text)
  pub left : left_of (drop at text) ≡ left_of text
  pub order : FollowFrom 0 found literal
  pub places : All (IsPieceIn text) found
  pub ordered : literal ≤ at
  pub within : at ≤ length text
  pub starts : IsCharBoundary text literal

pub so_far-none : (text : List ℕ) → IsUtf8 text → CutSoFar text [] 0 0
so_far-none text utf8 = record {
  pieces = refl;
  left = refl;
  order = refl;
  places = All-nil (IsPieceIn text);
  ordered = omega arith;
  within = omega arith;
  starts = IsCharBoundary-start text utf8;
}

cut-first : (text : List ℕ) (atom : TextAtom) (rest : List ℕ) → first_atom text ≡ Some (atom, rest) → cut text ≡ atom_before atom (cut rest)
cut-first text atom rest is = cut-next text ∙ ap (cut_on cut text) is

first_byte : (text : List ℕ) (at : ℕ) → at < length text → opening_of (drop at text) ≡ None
    → first_atom (drop at text) ≡ Some (Byte (get_or text at 0), drop (at + 1) text)
first_byte text at near plain =
    let from = drop_more text at 0 near in
    ap first_atom from ∙ first-opening (get_or text at 0 ∷ drop (at + 1) text) None (ap opening_of (sym from) ∙ plain)

-- a byte that means itself
pub so_far-byte : (text : List ℕ) (found : List Piece) (literal at : ℕ) → CutSoFar text found literal at → at < length text
    → opening_of (drop at text) ≡ None
    → CutSoFar text found literal (at + 1)
so_far-byte text found literal at h near plain =
    let b = get_or text at 0 in
    let bytes : List ℕ = slice_range text literal at in
    let next = cut-first (drop at text) (Byte b) (drop (at + 1) text) (first_byte text at near plain) in
    let longer : slice_range text literal (at + 1) ≡ bytes ++ b ∷ [] =
    sym (range_join text literal at (at + 1) h.ordered (omega arith)) ∙ ap (λ l. bytes ++ l) (slice_range-one text at near) in
    record {
      pieces = ap (λ l. map (piece_in_text text) found ++ pieces_of l)
          (ap (λ l. map Byte l ++ atoms_of (drop (at + 1) text)) longer
          ∙ ap (λ l. l ++ atoms_of (drop (at + 1) text)) (map-append Byte bytes (b ∷ []))
          ∙ append_assoc (map Byte bytes) (Byte b ∷ []) (atoms_of (drop (at + 1) text))
          ∙ ap (λ x. map Byte bytes ++ x.0) (sym next))
          ∙ h.pieces;
      left = ap (λ x. x.1) (sym next) ∙ h.left;
      order = h.order;
      places = h.places;
      ordered = omega (arith, h.ordered);
      within = omega arith;
      starts = h.starts;
    }

-- bytes that mean themselves, as a piece, if there are any
abbrev pub literal_pieces : List ℕ → List TextPiece
literal_pieces [] = []
literal_pieces (b ∷ bytes) = LiteralPiece (b ∷ bytes) ∷ []

alone_first : (atom : TextAtom) (piece : TextPiece) (atoms : List TextAtom) → IsAlone atom piece
    → pieces_of (atom ∷ atoms) ≡ piece ∷ pieces_of atoms
alone_first (Byte b) piece atoms is = absurd is
alone_first EscapedDollar piece atoms is = ap (λ p. p ∷ pieces_of atoms) (sym is)
alone_first (Reference written name modifiers) piece atoms is = ap (λ p. p ∷ pieces_of atoms) (sym is)

alone_byte : (b : ℕ) (atom : TextAtom) (piece : TextPiece) (pieces : List TextPiece) → IsAlone atom piece
    → with_byte b (piece ∷ pieces) ≡ LiteralPiece (b ∷ []) ∷ piece ∷ pieces
alone_byte b (Byte c) piece pieces is = absurd is
alone_byte b EscapedDollar piece pieces is = rw is refl
alone_byte b (Reference written name modifiers) piece pieces is = rw is refl

alone_after : (bytes : List ℕ) (atom : TextAtom) (piece : TextPiece) (atoms : List TextAtom) → IsAlone atom piece
    → pieces_of (map Byte bytes ++ atom ∷ atoms) ≡ literal_pieces bytes ++ piece ∷ pieces_of atoms
alone_after [] atom piece atoms is = alone_first atom piece atoms is
alone_after (b ∷ []) atom piece atoms is = ap (with_byte b) (alone_first atom piece atoms is) ∙ alone_byte b atom piece (pieces_of atoms) is
alone_after (b ∷ c ∷ bytes) atom piece atoms is = ap (with_byte b) (alone_after (c ∷ bytes) atom piece atoms is)

bytes_last : (bytes : List ℕ) → pieces_of (map Byte bytes ++ []) ≡ literal_pieces bytes
bytes_last [] = refl
bytes_last (b ∷ []) = refl
bytes_last (b ∷ c ∷ bytes) = ap (with_byte b) (bytes_last (c ∷ bytes))

some_literal : (bytes : List ℕ) → 0 < length bytes → literal_pieces bytes ≡ LiteralPiece bytes ∷ []
some_literal [] some = absurd (omega arith)
some_literal (b ∷ bytes) some = refl

no_literal : (bytes : List ℕ) → length bytes ≤ 0 → literal_pieces bytes ≡ []
no_literal [] none = refl
no_literal (b ∷ bytes) none = absurd (omega arith)

-- pieces that directly follow one another, in two parts
stand_on : (start : ℕ) (found : List Piece) (middle : ℕ) (more : List Piece) (end : ℕ) → FollowFrom start found middle
    → FollowFrom middle more end → FollowFrom start (found ++ more) end
stand_on start [] middle more end front back = subst (λ n. FollowFrom n more end) (sym front) back
stand_on start (piece ∷ found) middle more end front back =
    (front.0, front.1, stand_on (span_of_piece piece).end found middle more end front.2 back)

-- what the literal from a place up to another is
pub record IsLiteralAt (text : List ℕ) (start end : ℕ) (literal : List Piece) : Type 0 where
  pub pieces : map (piece_in_text text) literal ≡ literal_pieces (slice_range text start end)
  pub order : FollowFrom start literal end
  pub places : All (IsPieceIn text) literal

literal_by : (test : Bool) (text : List ℕ) (start end : ℕ) → nat_lt start end ≡ test → start ≤ end → end ≤ length text
    → IsCharBoundary text start → IsCharBoundary text end
    → IsLiteralAt text start end (cond test (v.Literal (record { start = start; end = end }) ∷ []) [])
literal_by true text start end is ordered within starts ends =
    let less : start < end = ltb-true start end is in
    let size = length-range text start end ordered within in
    record {
      pieces = sym (some_literal (slice_range text start end) (omega (arith, size)));
      order = (refl, less, refl);
      places = All-cons (IsPieceIn text) (v.Literal (record { start = start; end = end })) []
          (record { ordered = ordered; starts = starts; ends = ends }) (All-nil (IsPieceIn text));
    }
literal_by false text start end is ordered within starts ends =
    let less : end ≤ start = ltb-false start end is in
    let size = length-range text start end ordered within in
    record {
      pieces = sym (no_literal (slice_range text start end) (omega (arith, size)));
      order = omega arith;
      places = All-nil (IsPieceIn text);
    }

starts_cut : (text : List ℕ) (piece : Piece) → IsPieceIn text piece → IsCharBoundary text (span_of_piece piece).start
starts_cut text (v.Literal span) is = is.starts
starts_cut text (v.EscapedDollar span) is = is.0.starts
starts_cut text (v.Reference reference) is = is.whole.starts

ends_cut : (text : List ℕ) (piece : Piece) → IsPieceIn text piece → IsCharBoundary text (span_of_piece piece).end
ends_cut text (v.Literal span) is = is.ends
ends_cut text (v.EscapedDollar span) is = is.0.ends
ends_cut text (v.Reference reference) is = is.whole.ends

-- a pair or a reference, with the literal before it
pub so_far-piece : (text : List ℕ) (found : List Piece) (literal at : ℕ) (piece : Piece) → CutSoFar text found literal at
    → IsPieceAt text at piece
    → CutSoFar text ((found ++ literal_at literal at) ++ piece ∷ []) (span_of_piece piece).end (span_of_piece piece).end
so_far-piece text found literal at piece h p =
    let end : ℕ = (span_of_piece piece).end in
    let bytes : List ℕ = slice_range text literal at in
    let next = cut-first (drop at text) p.atom (drop end text) p.first in
    let here : IsCharBoundary text at = subst (IsCharBoundary text) p.start (starts_cut text piece p.places) in
    let before : List Piece = literal_at literal at in
    let rest : List TextPiece = pieces_of (atoms_of (drop end text)) in
    let lit = literal_by (nat_lt literal at) text literal at refl h.ordered h.within h.starts here in
    record {
      pieces = ap (λ l. map (piece_in_text text) ((found ++ before) ++ piece ∷ []) ++ pieces_of (map Byte l ++ atoms_of (drop end text)))
          (range_none text end)
          ∙ ap (λ l. l ++ rest) (map-append (piece_in_text text) (found ++ before) (piece ∷ [])
          ∙ ap (λ l. l ++ piece_in_text text piece ∷ []) (map-append (piece_in_text text) found before))
          ∙ append_assoc (map (piece_in_text text) found ++ map (piece_in_text text) before) (piece_in_text text piece ∷ []) rest
          ∙ append_assoc (map (piece_in_text text) found) (map (piece_in_text text) before) (piece_in_text text piece ∷ rest)
          ∙ ap (λ l. map (piece_in_text text) found ++ (l ++ piece_in_text text piece ∷ rest)) lit.pieces
          ∙ ap (λ l. map (piece_in_text text) found ++ l)
          (sym (ap (λ x. pieces_of (map Byte bytes ++ x.0)) next ∙ alone_after bytes p.atom (piece_in_text text piece)
          (atoms_of (drop end text)) p.alone))
          ∙ h.pieces;
      left = ap (λ x. x.1) (sym next) ∙ h.left;
      order = stand_on 0 (found ++ literal_at literal at) at (piece ∷ []) end (stand_on 0 found literal (literal_at literal at) at h.order
          lit.order) (p.start, p.later, refl);
      places = All-append (IsPieceIn text) (found ++ literal_at literal at) (piece ∷ [])
          (All-append (IsPieceIn text) found (literal_at literal at) h.places lit.places)
          (All-cons (IsPieceIn text) piece [] p.places (All-nil (IsPieceIn text)));
      ordered = omega arith;
      within = p.within;
      starts = ends_cut text piece p.places;
    }

-- all pieces of a text
pub record AllCut (text : List ℕ) (found : List Piece) : Type 0 where
  pub pieces : map (piece_in_text text) found ≡ pieces_of (atoms_of text)
  pub whole : left_of text ≡ []
  pub order : FollowFrom 0 found (length text)
  pub places : All (IsPieceIn text) found

cut-nil : cut [] ≡ ([], [])
cut-nil = cut-next [] ∙ ap (cut_on cut []) first-nil

all_at : (text : List ℕ) (found : List Piece) (literal : ℕ) → CutSoFar text found literal (length text)
    → AllCut text (found ++ literal_at literal (length text))
all_at text found literal h =
    let end : ℕ = length text in
    let bytes : List ℕ = slice_range text literal end in
    let none : cut (drop end text) ≡ ([], []) = ap cut (drop-length text) ∙ cut-nil in
    let lit = literal_by (nat_lt literal end) text literal end refl h.ordered h.within h.starts (IsCharBoundary-end text) in
    record {
      pieces = map-append (piece_in_text text) found (literal_at literal end) ∙ ap (λ l. map (piece_in_text text) found ++ l) lit.pieces
          ∙ ap (λ l. map (piece_in_text text) found ++ l) (sym (ap (λ x. pieces_of (map Byte bytes ++ x.0)) none ∙ bytes_last bytes))
          ∙ h.pieces;
      whole = sym h.left ∙ ap (λ x. x.1) none;
      order = stand_on 0 found literal (literal_at literal end) end h.order lit.order;
      places = All-append (IsPieceIn text) found (literal_at literal end) h.places lit.places;
    }

-- the end of the text is met
pub all-cut : (text : List ℕ) (found : List Piece) (literal at : ℕ) → CutSoFar text found literal at → length text ≤ at
    → AllCut text (found ++ literal_at literal at)
all-cut text found literal at h end =
    let last : at ≡ length text = omega (arith, h.within) in
    subst (λ n. AllCut text (found ++ literal_at literal n)) (sym last)
    (all_at text found literal (subst (CutSoFar text found literal) last h))

-- a reference begins that doesn't end
pub unclosed : (text : List ℕ) (found : List Piece) (literal at : ℕ) → CutSoFar text found literal at → at < length text
    → first_atom (drop at text) ≡ None → IsUnclosedAt text at
unclosed text found literal at h near none = record {
  inside = near;
  left = sym h.left
      ∙ ap (λ x. x.1) (cut-next (drop at text) ∙ ap (cut_on cut (drop at text)) none);
}
