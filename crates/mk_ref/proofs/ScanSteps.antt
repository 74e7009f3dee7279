-- Where what begins with an opening mark ends: marks that are open one inside another.
use Rattle.std.proofs.Common.{◌≡◌, ◌≢◌, ℕ, ◌+◌, ◌<◌, ◌≤◌, true, false, cond, nat_eq, List, [], ◌∷◌, ◌++◌, length, take, drop, get_or}
use Rattle.std.proofs.Common.{reverse, Option, Some, None, option_map, option_and_then, refl, sym, ap, ◌∙◌, arith, drop-drop}
use Rattle.std.proofs.lemmas.Bool.{eq-eqb, ne_eqb}
use Rattle.std.proofs.lemmas.List.{drop_more, reverse-append}
use Rattle.std.proofs.Math.ListN.{drop_of_length-le}
use Rattle.mk_ref.specs.declared.opening.Opening.{Opening}
use Rattle.mk_ref.specs.declared.opening.Opening.TheVariants.{Doubled, Letter, Marked}
use Rattle.mk_ref.specs.Atoms.{TextAtom, Byte, EscapedDollar, Reference, opening_of, marked_reference, marked_first, atom_by, atom_before}
use Rattle.mk_ref.specs.Atoms.{with_more, up_to_mark, first_atom}
use Rattle.mk_ref.specs.Ends.{GoesOnAt, EndsAt, AtomEndsAt}
use Rattle.mk_ref.proofs.AtomSteps.{up_to-nil, up_to-cons}

-- what follows the marks that close a text, the innermost first
abbrev pub after_marks : List ℕ → List ℕ → Option (List ℕ)
after_marks [] text = Some text
after_marks (mark ∷ marks) text = option_and_then (λ x. after_marks marks x.1) (up_to_mark mark text)

after-atom : (marks : List ℕ) (atom : TextAtom) (read : Option (List TextAtom × List ℕ))
    → option_and_then (λ x. after_marks marks x.1) (option_map (atom_before atom) read) ≡ option_and_then (λ x. after_marks marks x.1) read
after-atom marks atom None = refl
after-atom marks atom (Some x) = refl

after-reference : (mark : ℕ) (marks front : List ℕ) (inner : ℕ) (read : Option (List TextAtom × List ℕ))
    → option_and_then (λ x. after_marks marks x.1) (with_more (up_to_mark mark) (option_map (marked_first front inner) read))
    ≡ option_and_then (λ x. after_marks (mark ∷ marks) x.1) read
after-reference mark marks front inner None = refl
after-reference mark marks front inner (Some x) = after-atom marks (marked_reference front x.0 inner) (up_to_mark mark x.1)

pub after-none : (mark : ℕ) (marks : List ℕ) → after_marks (mark ∷ marks) [] ≡ None
after-none mark marks = ap (option_and_then (λ x. after_marks marks x.1)) (up_to-nil mark)

pub after-mark : (mark : ℕ) (marks : List ℕ) (b : ℕ) (rest : List ℕ) → nat_eq b mark ≡ true → after_marks (mark ∷ marks) (b ∷ rest)
    ≡ after_marks marks rest
after-mark mark marks b rest is =
    ap (option_and_then (λ x. after_marks marks x.1)) (up_to-cons mark b rest
    ∙ ap (λ t. cond t (Some ([], rest)) (with_more (up_to_mark mark) (first_atom (b ∷ rest)))) is)

-- a text that goes on with an atom
pub up_to-atom : (mark b : ℕ) (rest : List ℕ) → nat_eq b mark ≡ false → up_to_mark mark (b ∷ rest) ≡ with_more
    (up_to_mark mark) (first_atom (b ∷ rest))
up_to-atom mark b rest other = up_to-cons mark b rest
    ∙ ap (λ t. cond t (Some ([], rest)) (with_more (up_to_mark mark) (first_atom (b ∷ rest)))) other

-- what a text begins with, from its opening
pub first-opening : (text : List ℕ) (opening : Option Opening) → opening_of text ≡ opening
    → first_atom text ≡ atom_by up_to_mark opening text
unfolding first_atom
first-opening text opening is = ap (λ o. atom_by up_to_mark o text) is

pub after-first : (mark : ℕ) (marks : List ℕ) (b : ℕ) (rest : List ℕ) (atom : TextAtom) (behind : List ℕ)
    → nat_eq b mark ≡ false → first_atom (b ∷ rest) ≡ Some (atom, behind) → after_marks (mark ∷ marks) (b ∷ rest) ≡
    after_marks (mark ∷ marks) behind
after-first mark marks b rest atom behind other is =
    ap (option_and_then (λ x. after_marks marks x.1)) (up_to-atom mark b rest other ∙ ap (with_more (up_to_mark mark)) is)
    ∙ after-atom marks atom (up_to_mark mark behind)

pub after-open : (mark : ℕ) (marks : List ℕ) (b : ℕ) (rest : List ℕ) (inner : ℕ)
    → nat_eq b mark ≡ false → opening_of (b ∷ rest) ≡ Some (Marked inner) → after_marks (mark ∷ marks) (b ∷ rest) ≡ after_marks
    (inner ∷ mark ∷ marks) (drop 1 rest)
after-open mark marks b rest inner other is =
    ap (option_and_then (λ x. after_marks marks x.1)) (up_to-atom mark b rest other
    ∙ ap (with_more (up_to_mark mark)) (first-opening (b ∷ rest) (Some (Marked inner)) is))
    ∙ after-reference mark marks (take 2 (b ∷ rest)) inner (up_to_mark inner (drop 1 rest))

-- The marks that are open at a place: after them, the innermost first, comes what follows the first mark to be closed from
-- another place on.
pub record MarksOpen (text : List ℕ) (start closing : ℕ) (around : List ℕ) (mark at : ℕ) : Type 0 where
  pub behind : after_marks (mark ∷ reverse around) (drop at text) ≡ option_map (λ x. x.1) (up_to_mark closing (drop start text))
  pub later : start ≤ at
  pub within : at ≤ length text

-- what follows a pair or a reference of one letter
pub data IsTwo : Opening → Type 0 where
  two_dollars : IsTwo Doubled
  dollar_letter : IsTwo Letter

module _ (text : List ℕ) (at : ℕ) (near : at < length text) where
  -- the text from a place on, with its first byte apart
  from_here : drop at text ≡ get_or text at 0 ∷ drop (at + 1) text
  from_here = drop_more text at 0 near

  opening_here : (opening : Option Opening) → opening_of (drop at text) ≡ opening
      → opening_of (get_or text at 0 ∷ drop (at + 1) text) ≡ opening
  opening_here opening is = ap opening_of (sym from_here) ∙ is

  first_here : (opening : Option Opening) → opening_of (drop at text) ≡ opening
      → first_atom (get_or text at 0 ∷ drop (at + 1) text) ≡ atom_by up_to_mark opening (get_or text at 0 ∷ drop (at + 1) text)
  first_here opening is = first-opening (get_or text at 0 ∷ drop (at + 1) text) opening (opening_here opening is)

  two_on : drop 1 (drop (at + 1) text) ≡ drop (at + 2) text
  two_on = drop-drop 1 (at + 1) text ∙ ap (λ n. drop n text) (omega arith)

open-step : (text : List ℕ) (start closing : ℕ) (around : List ℕ) (mark at : ℕ) (next : ℕ) (marks : List ℕ) (outer : ℕ)
    → MarksOpen text start closing around mark at → at < next → next ≤ length text
    → after_marks (mark ∷ reverse around) (drop at text) ≡ after_marks (outer ∷ reverse marks) (drop next text)
    → MarksOpen text start closing marks outer next
open-step text start closing around mark at next marks outer h more within is = record {
  behind = sym is ∙ h.behind;
  later = omega (arith, h.later);
  within = within;
}

-- an inner mark is closed
pub open-close : (text : List ℕ) (start closing : ℕ) (around : List ℕ) (mark at : ℕ) (left : List ℕ) (outer : ℕ)
    → MarksOpen text start closing around mark at → at < length text → get_or text at 0 ≡ mark → around ≡ left ++ outer ∷ []
    → MarksOpen text start closing left outer (at + 1)
open-close text start closing around mark at left outer h near is last =
    open-step text start closing around mark at (at + 1) left outer h (omega arith) (omega arith)
    (ap (after_marks (mark ∷ reverse around)) (from_here text at near)
    ∙ after-mark mark (reverse around) (get_or text at 0) (drop (at + 1) text) (eq-eqb (get_or text at 0) mark is)
    ∙ ap (λ l. after_marks l (drop (at + 1) text)) (ap reverse last ∙ reverse-append left (outer ∷ [])))

-- the outermost mark is closed
pub open-last : (text : List ℕ) (start closing : ℕ) (around : List ℕ) (mark at : ℕ)
    → MarksOpen text start closing around mark at → at < length text → get_or text at 0 ≡ mark → around ≡ []
    → GoesOnAt text start (up_to_mark closing (drop start text)) (at + 1)
open-last text start closing around mark at h near is none = record {
  rest = sym h.behind ∙ ap (λ l. after_marks (mark ∷ reverse l) (drop at text)) none ∙ ap (after_marks (mark ∷ [])) (from_here text at near)
      ∙ after-mark mark [] (get_or text at 0) (drop (at + 1) text) (eq-eqb (get_or text at 0) mark is);
  later = omega (arith, h.later);
  within = omega arith;
}

-- a byte that means itself
pub open-byte : (text : List ℕ) (start closing : ℕ) (around : List ℕ) (mark at : ℕ)
    → MarksOpen text start closing around mark at → at < length text → get_or text at 0 ≢ mark → opening_of (drop at text) ≡ None
    → MarksOpen text start closing around mark (at + 1)
open-byte text start closing around mark at h near other plain =
    open-step text start closing around mark at (at + 1) around mark h (omega arith) (omega arith)
    (ap (after_marks (mark ∷ reverse around)) (from_here text at near)
    ∙ after-first mark (reverse around) (get_or text at 0) (drop (at + 1) text) (Byte (get_or text at 0)) (drop (at + 1) text)
    (ne_eqb (get_or text at 0) mark other) (first_here text at near None plain))

-- a pair or a reference of one letter
pub open-two : (text : List ℕ) (start closing : ℕ) (around : List ℕ) (mark at : ℕ) (opening : Opening) → IsTwo opening
    → MarksOpen text start closing around mark at → at + 2 ≤ length text → get_or text at 0 ≢ mark
    → opening_of (drop at text) ≡ Some opening
    → MarksOpen text start closing around mark (at + 2)
open-two text start closing around mark at Doubled two h room other is =
    let near : at < length text = omega arith in
    open-step text start closing around mark at (at + 2) around mark h (omega arith) room
    (ap (after_marks (mark ∷ reverse around)) (from_here text at near)
    ∙ after-first mark (reverse around) (get_or text at 0) (drop (at + 1) text) EscapedDollar (drop 1 (drop (at + 1) text))
    (ne_eqb (get_or text at 0) mark other) (first_here text at near (Some Doubled) is)
    ∙ ap (after_marks (mark ∷ reverse around)) (two_on text at near))
open-two text start closing around mark at Letter two h room other is =
    let near : at < length text = omega arith in
    let here : List ℕ = get_or text at 0 ∷ drop (at + 1) text in
    open-step text start closing around mark at (at + 2) around mark h (omega arith) room
    (ap (after_marks (mark ∷ reverse around)) (from_here text at near)
    ∙ after-first mark (reverse around) (get_or text at 0) (drop (at + 1) text) (Reference (take 2 here) (take 1 (drop 1 here)) None)
    (drop 1 (drop (at + 1) text))
    (ne_eqb (get_or text at 0) mark other) (first_here text at near (Some Letter) is)
    ∙ ap (after_marks (mark ∷ reverse around)) (two_on text at near))
open-two text start closing around mark at (Marked inner) two h room other is = elim two [ ]

-- an inner reference with marks
pub open-inner : (text : List ℕ) (start closing : ℕ) (around : List ℕ) (mark at : ℕ) (inner : ℕ)
    → MarksOpen text start closing around mark at → at + 2 ≤ length text → get_or text at 0 ≢ mark
    → opening_of (drop at text) ≡ Some (Marked inner)
    → MarksOpen text start closing (around ++ mark ∷ []) inner (at + 2)
open-inner text start closing around mark at inner h room other is =
    let near : at < length text = omega arith in
    open-step text start closing around mark at (at + 2) (around ++ mark ∷ []) inner h (omega arith) room
    (ap (after_marks (mark ∷ reverse around)) (from_here text at near)
    ∙ after-open mark (reverse around) (get_or text at 0) (drop (at + 1) text) inner (ne_eqb (get_or text at 0) mark other)
    (opening_here text at near (Some (Marked inner)) is)
    ∙ ap (after_marks (inner ∷ mark ∷ reverse around)) (two_on text at near)
    ∙ ap (λ l. after_marks (inner ∷ l) (drop (at + 2) text)) (sym (reverse-append around (mark ∷ []))))

no_rest : (read : Option (List TextAtom × List ℕ)) → option_map (λ x. x.1) read ≡ None → read ≡ None
no_rest None is = refl
no_rest (Some x) is = cc

-- marks are open at the end of the text
pub open-end : (text : List ℕ) (start closing : ℕ) (around : List ℕ) (mark at : ℕ)
    → MarksOpen text start closing around mark at → length text ≤ at → up_to_mark closing (drop start text) ≡ None
open-end text start closing around mark at h end =
    no_rest (up_to_mark closing (drop start text))
    (sym h.behind ∙ ap (after_marks (mark ∷ reverse around)) (drop_of_length-le text end) ∙ after-none mark (reverse around))

pub first-marked : (text : List ℕ) (at mark : ℕ) → opening_of (drop at text) ≡ Some (Marked mark)
    → first_atom (drop at text) ≡ option_map (marked_first (take 2 (drop at text)) mark) (up_to_mark mark (drop (at + 2) text))
first-marked text at mark is =
    first-opening (drop at text) (Some (Marked mark)) is
    ∙ ap (λ l. option_map (marked_first (take 2 (drop at text)) mark) (up_to_mark mark l)) (drop-drop 2 at text)

-- where an atom ends: a byte that means itself
pub atom-byte : (text : List ℕ) (at : ℕ) → at < length text → opening_of (drop at text) ≡ None
    → GoesOnAt text at (first_atom (drop at text)) (at + 1)
atom-byte text at near plain = record {
  rest = ap (λ l. option_map (λ x. x.1) (first_atom l)) (from_here text at near)
      ∙ ap (option_map (λ x. x.1)) (first_here text at near None plain);
  later = omega arith;
  within = omega arith;
}

-- a pair or a reference of one letter
pub atom-two : (text : List ℕ) (at : ℕ) (opening : Opening) → IsTwo opening → at + 2 ≤ length text
    → opening_of (drop at text) ≡ Some opening
    → GoesOnAt text at (first_atom (drop at text)) (at + 2)
atom-two text at Doubled two room is = record {
  rest = ap (option_map (λ x. x.1)) (first-opening (drop at text) (Some Doubled) is) ∙ ap Some (drop-drop 2 at text);
  later = omega arith;
  within = room;
}
atom-two text at Letter two room is = record {
  rest = ap (option_map (λ x. x.1)) (first-opening (drop at text) (Some Letter) is) ∙ ap Some (drop-drop 2 at text);
  later = omega arith;
  within = room;
}
atom-two text at (Marked inner) two room is = elim two [ ]

rest_of_marked : (front : List ℕ) (mark : ℕ) (read : Option (List TextAtom × List ℕ))
    → option_map (λ x. x.1) (option_map (marked_first front mark) read) ≡ option_map (λ x. x.1) read
rest_of_marked front mark None = refl
rest_of_marked front mark (Some x) = refl

-- a reference with marks
pub atom-marked : (text : List ℕ) (at mark : ℕ) → opening_of (drop at text) ≡ Some (Marked mark)
    → (end : Option ℕ) → EndsAt text (at + 2) mark end → AtomEndsAt text at end
atom-marked text at mark is None h =
    first-marked text at mark is ∙ ap (option_map (marked_first (take 2 (drop at text)) mark)) h
atom-marked text at mark is (Some end) h = record {
  rest = ap (option_map (λ x. x.1)) (first-marked text at mark is) ∙ rest_of_marked (take 2 (drop at text)) mark
      (up_to_mark mark (drop (at + 2) text)) ∙ h.rest;
  later = omega (arith, h.later);
  within = h.within;
}
