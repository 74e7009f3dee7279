-- The piece that a text has at a place.
use Rattle.std.proofs.Common.{◌≡◌, ℕ, ◌+◌, ◌-◌, ◌<◌, ◌≤◌, List, length, take, drop, get_or, Option, Some, None, option_map, IfSome, IsUtf8}
use Rattle.std.proofs.Common.{IsCharBoundary, refl, sym, ap, subst, ◌∙◌, arith, inl, inr, drop-drop, get_or-take, get_or-drop}
use Rattle.std.specs.Prelude.{slice_range, unwrap_or}
use Rattle.std.proofs.lemmas.Str.{IsCharBoundary-before_ascii, IsCharBoundary-after_ascii}
use Rattle.general_facts.specs.Texts.{alphabetic-ascii}
use Rattle.mk_text.specs.Words.{span_text, IsSpanOf}
use Rattle.mk_ref.specs.declared.opening.Opening.{Opening}
use Rattle.mk_ref.specs.declared.opening.Opening.TheVariants.{Doubled, Letter, Marked}
use Rattle.mk_ref.specs.declared.ends.Inside.{Inside}
use Rattle.mk_ref.specs.declared.pieces_of_text.Piece.TheVariants as v
use Rattle.mk_ref.specs.Atoms.{TextAtom, EscapedDollar, Reference, source, sources, before_colon, opening_of, marked_reference}
use Rattle.mk_ref.specs.Atoms.{marked_first, up_to_mark, first_atom}
use Rattle.mk_ref.specs.Ends.{IsInside}
use Rattle.mk_ref.specs.Pieces.{ReferencePiece}
use Rattle.mk_ref.specs.Places.{IsReferenceIn, IsMarkedPlaced}
use Rattle.mk_ref.specs.Firsts.{reference_at, IsPieceAt}
use Rattle.mk_ref.proofs.AtomSteps.{IsFront, Opens, opens_with}
use Rattle.mk_ref.proofs.ScanSteps.{first-opening, first-marked}
use Rattle.mk_ref.proofs.InsideSteps.{written_as}

-- the two bytes of an opening are ASCII characters
front_below : (opening : Opening) (front : List ℕ) → IsFront opening front → (get_or front 0 0 < 128) × (get_or front 1 0 < 128)
front_below Doubled front is = rw is (omega arith, omega arith)
front_below Letter front is = rw is.2 (omega arith, alphabetic-ascii is.0 is.1)
front_below (Marked mark) front is = elim is [
  | inl brace ↦ rw brace.0 (omega arith, omega arith)
  | inr parenthesis ↦ rw parenthesis.0
      (omega arith, omega arith)
]

mark_below : (mark : ℕ) (front : List ℕ) → IsFront (Marked mark) front → mark < 128
mark_below mark front is = elim is [ inl brace ↦ omega (arith, brace.1) | inr parenthesis ↦ omega (arith, parenthesis.1) ]

module _ (text : List ℕ) (at : ℕ) (opening : Opening) (is : opening_of (drop at text) ≡ Some opening) where
  opened : Opens (drop at text) opening
  opened = opens_with (drop at text) opening is

  front_byte : (k : ℕ) → k < 2 → get_or (take 2 (drop at text)) k 0 ≡ get_or text (at + k) 0
  front_byte k low = get_or-take 2 (drop at text) k 0 low ∙ get_or-drop at text k 0

  first_below : get_or text at 0 < 128
  first_below = let zero_on : at + 0 ≡ at = omega arith in
      subst (λ n. n < 128) (front_byte 0 (omega arith) ∙ ap (λ n. get_or text n 0) zero_on)
      (front_below opening (take 2 (drop at text)) opened.front).0

  second_below : get_or text (at + 1) 0 < 128
  second_below = subst (λ n. n < 128) (front_byte 1 (omega arith)) (front_below opening (take 2 (drop at text)) opened.front).1

-- where a text may be cut at an opening
pub record MayCut (text : List ℕ) (at : ℕ) : Type 0 where
  pub here : IsCharBoundary text at
  pub one : IsCharBoundary text (at + 1)
  pub two : IsCharBoundary text (at + 2)

pub may_cut : (text : List ℕ) (at : ℕ) (opening : Opening) → IsUtf8 text → at + 2 ≤ length text
    → opening_of (drop at text) ≡ Some opening → MayCut text at
may_cut text at opening utf8 room is =
    let near : at < length text = omega arith in
    let second : at + 1 < length text = omega arith in
    let on : at + 1 + 1 ≡ at + 2 = omega arith in
    record {
      here = IsCharBoundary-before_ascii text at near (first_below text at opening is);
      one = IsCharBoundary-after_ascii text at utf8 near (first_below text at opening is);
      two = subst (IsCharBoundary text) on (IsCharBoundary-after_ascii text (at + 1) utf8 second (second_below text at opening is));
    }

pub piece_escaped_dollar : (text : List ℕ) (at : ℕ) → IsUtf8 text → at + 2 ≤ length text → opening_of (drop at text) ≡ Some Doubled
    → IsPieceAt text at (v.EscapedDollar (record { start = at; end = at + 2 }))
piece_escaped_dollar text at utf8 room is =
    let cuts = may_cut text at Doubled utf8 room is in
    record {
      atom = EscapedDollar;
      first = first-opening (drop at text) (Some Doubled) is ∙ ap (λ l. Some (EscapedDollar, l)) (drop-drop 2 at text);
      alone = refl;
      start = refl;
      later = omega arith;
      within = room;
      places = (record { ordered = omega arith; starts = cuts.here; ends = cuts.two }, refl);
    }

pub piece_letter : (text : List ℕ) (at : ℕ) → IsUtf8 text → at + 2 ≤ length text → opening_of (drop at text) ≡ Some Letter
    → IsPieceAt text at (v.Reference
    (record { whole = record { start = at; end = at + 2 }; name = record { start = at + 1; end = at + 2 }; modifiers = None }))
piece_letter text at utf8 room is =
    let cuts = may_cut text at Letter utf8 room is in
    let two : at + 2 - at ≡ 2 = omega arith in
    let one : at + 2 - (at + 1) ≡ 1 = omega arith in
    let here : List ℕ = drop at text in
    let written : span_text text (record { start = at; end = at + 2 }) ≡ take 2 here = ap (λ n. take n here) two in
    let name : span_text text (record { start = at + 1; end = at + 2 }) ≡ take 1 (drop 1 here) =
    ap (λ n. take n (drop (at + 1) text)) one ∙ ap (take 1) (sym (drop-drop 1 at text)) in
    record {
      atom = Reference (take 2 here) (take 1 (drop 1 here)) None;
      first = first-opening here (Some Letter) is
          ∙ ap (λ l. Some (Reference (take 2 here) (take 1 (drop 1 here)) None, l)) (drop-drop 2 at text);
      alone = ap (λ l. ReferencePiece l (span_text text (record { start = at + 1; end = at + 2 })) None) written
          ∙ ap (λ l. ReferencePiece (take 2 here) l None) name;
      start = refl;
      later = omega arith;
      within = room;
      places = record {
        whole = record { ordered = omega arith; starts = cuts.here; ends = cuts.two };
        name = record { ordered = omega arith; starts = cuts.one; ends = cuts.two };
        modifiers = tt;
        placed = inl (record { name_start = refl; name_end = refl; whole_end = refl; modifiers = refl });
      };
    }

-- the colon of a reference, if it has one, and its closing mark
pub record InsideAt (text : List ℕ) (start : ℕ) (colon : Option ℕ) (close : ℕ) : Type 0 where
  pub later : start ≤ close
  pub within : close < length text
  pub ascii : get_or text close 0 < 128
  pub colon_at : IfSome colon (λ c. (start ≤ c) × (c < close) × (get_or text c 0 ≡ 58))

name_in : (text : List ℕ) (start : ℕ) (colon : Option ℕ) (close : ℕ) → InsideAt text start colon close → IsCharBoundary text start
    → IsSpanOf text (record { start = start; end = unwrap_or colon close })
name_in text start None close h starts = record {
  ordered = h.later;
  starts = starts;
  ends = IsCharBoundary-before_ascii text
      close h.within h.ascii;
}
name_in text start (Some c) close h starts = record {
  ordered = h.colon_at.0;
  starts = starts;
  ends = IsCharBoundary-before_ascii text c (omega (arith, h.colon_at.1, h.within)) (omega (arith, h.colon_at.2));
}

modifiers_in : (text : List ℕ) (start : ℕ) (colon : Option ℕ) (close : ℕ) → IsUtf8 text → InsideAt text start colon close
    → IfSome (option_map (λ c. record { start = c + 1; end = close }) colon) (λ span. IsSpanOf text span)
modifiers_in text start None close utf8 h = tt
modifiers_in text start (Some c) close utf8 h = record {
  ordered = omega (arith, h.colon_at.1);
  starts = IsCharBoundary-after_ascii text c utf8 (omega (arith, h.colon_at.1, h.within)) (omega (arith, h.colon_at.2));
  ends = IsCharBoundary-before_ascii text close h.within h.ascii;
}

marked_placed : (at : ℕ) (colon : Option ℕ) (close : ℕ) → IsMarkedPlaced (reference_at at (record { colon = colon; close = close }))
marked_placed at None close = record { name_start = refl; modifiers = tt; whole_end = refl }
marked_placed at (Some c) close = record { name_start = refl; modifiers = refl; whole_end = refl }

spans_of : (text : List ℕ) (close : ℕ) (colon : Option ℕ)
    → option_map (span_text text) (option_map (λ c. record { start = c + 1; end = close }) colon) ≡ option_map
    (λ c. slice_range text (c + 1) close) colon
spans_of text close None = refl
spans_of text close (Some c) = refl

reference_in : (text : List ℕ) (at : ℕ) (colon : Option ℕ) (close : ℕ) → IsUtf8 text → MayCut text at → InsideAt text (at + 2) colon close
    → IsReferenceIn text (reference_at at (record { colon = colon; close = close }))
reference_in text at colon close utf8 cuts h = record {
  whole = record {
    ordered = omega (arith, h.later);
    starts = cuts.here;
    ends = IsCharBoundary-after_ascii text close
        utf8 h.within h.ascii;
  };
  name = name_in text (at + 2) colon close h cuts.two;
  modifiers = modifiers_in text (at + 2) colon close utf8 h;
  placed = inr (marked_placed at colon close);
}

pub piece_marked : (text : List ℕ) (at mark : ℕ) (inside : Inside) → IsUtf8 text → at + 2 ≤ length text
    → opening_of (drop at text) ≡ Some (Marked mark)
    → IsInside text (at + 2) mark inside → IsPieceAt text at (v.Reference (reference_at at inside))
piece_marked text at mark inside utf8 room is h =
    let front : List ℕ = take 2 (drop at text) in
    let atom : TextAtom = marked_reference front h.atoms mark in
    let end : ℕ = inside.close + 1 in
    let first : first_atom (drop at text) ≡ Some (atom, drop end text) = first-marked text at mark is
    ∙ ap (option_map (marked_first front mark)) h.read in
    let written : slice_range text at end ≡ source atom = sym (written_as text at end atom (omega (arith, h.later)) first) in
    let below : get_or text inside.close 0 < 128 = subst (λ n. n < 128) (sym h.marked)
    (mark_below mark front (opens_with (drop at text) (Marked mark) is).front) in
    record {
      atom = atom;
      first = first;
      alone = ap (λ l. ReferencePiece l (slice_range text (at + 2) (unwrap_or inside.colon inside.close))
          (option_map (span_text text) (option_map (λ c. record { start = c + 1; end = inside.close }) inside.colon))) written
          ∙ ap (λ l. ReferencePiece (source atom) l
          (option_map (span_text text) (option_map (λ c. record { start = c + 1; end = inside.close }) inside.colon))) (sym h.name)
          ∙ ap (ReferencePiece (source atom) (sources (before_colon h.atoms))) (spans_of text inside.close inside.colon ∙ sym h.modifiers);
      start = refl;
      later = omega (arith, h.later);
      within = omega (arith, h.within);
      places = reference_in text at inside.colon inside.close utf8 (may_cut text at (Marked mark) utf8 room is)
          (record { later = h.later; within = h.within; ascii = below; colon_at = h.colon });
    }

-- a reference with marks that doesn't end
pub piece_broken : (text : List ℕ) (at mark : ℕ) → opening_of (drop at text) ≡ Some (Marked mark)
    → up_to_mark mark (drop (at + 2) text) ≡ None
    → first_atom (drop at text) ≡ None
piece_broken text at mark is none = first-marked text at mark is ∙ ap (option_map (marked_first (take 2 (drop at text)) mark)) none
