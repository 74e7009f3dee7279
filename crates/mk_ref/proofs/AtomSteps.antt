-- Atoms read off a text: what they are written as, and that the bound on their number says nothing.
use Rattle.std.proofs.Common.{◌≡◌, ℕ, zero, suc, ◌<◌, ◌≤◌, Bool, true, false, cond, nat_eq, List, [], ◌∷◌, ◌++◌, length, take, drop, Option}
use Rattle.std.proofs.Common.{Some, None, option_map, IfSome, All, refl, sym, ap, subst, ◌∙◌, arith, inl, inr, append_assoc, length-append}
use Rattle.std.proofs.Common.{length-drop, length-take, take-append-drop}
use Rattle.std.proofs.lemmas.Bool.Decides.{eqb_tells}
use Rattle.std.proofs.lemmas.List.Elements.{All-nil, All-cons}
use Rattle.std.specs.Char.{is_ascii_alphabetic}
use Rattle.mk_ref.specs.AtomFacts.{around_colon}
use Rattle.mk_ref.specs.declared.opening.Opening.{Opening}
use Rattle.mk_ref.specs.declared.opening.Opening.TheVariants.{Doubled, Letter, Marked}
use Rattle.mk_ref.specs.Atoms.{TextAtom, source, sources, before_colon, following_colon, opening_after, opening_of, marked_first, atom_by}
use Rattle.mk_ref.specs.Atoms.{atom_before, with_more, read_up_to, up_to_mark, first_atom, cut_on, cut_by, cut}
use Rattle.mk_ref.specs.Laws.{AreMarks, with_colon, IsPutTogether}

-- the two bytes that an opening takes
abbrev pub IsFront : Opening → List ℕ → Type 0
IsFront Doubled front = front ≡ 36 ∷ 36 ∷ []
IsFront Letter front = (letter : ℕ) × (is_ascii_alphabetic letter ≡ true) × (front ≡ 36 ∷ letter ∷ [])
IsFront (Marked mark) front = AreMarks front mark

-- a text that begins with an opening
pub record Opens (text : List ℕ) (opening : Opening) : Type 0 where
  pub front : IsFront opening (take 2 text)
  pub room : 2 ≤ length text

opens_letter : (c : ℕ) (rest : List ℕ) (test : Bool) → is_ascii_alphabetic c ≡ test
    → IfSome (cond test (Some Letter) None) (Opens (36 ∷ c ∷ rest))
opens_letter c rest true is = record { front = (c, is, refl); room = omega arith }
opens_letter c rest false is = tt

opens_after : (c : ℕ) (rest : List ℕ) → IfSome (opening_after (c ∷ rest)) (Opens (36 ∷ c ∷ rest))
opens_after c rest =
    elim (eqb_tells c 36) [
      | inl two ↦ rw two.0 (record { front = ap (λ n. 36 ∷ n ∷ []) two.1; room = omega arith })
      | inr no_dollar ↦ elim (eqb_tells c 123) [
        | inl brace ↦ rw (no_dollar.0, brace.0) (record { front = inl (ap (λ n. 36 ∷ n ∷ []) brace.1, refl); room = omega arith })
        | inr no_brace ↦ elim (eqb_tells c 40) [
          | inl parenthesis ↦ rw (no_dollar.0, no_brace.0, parenthesis.0)
              (record { front = inr (ap (λ n. 36 ∷ n ∷ []) parenthesis.1, refl); room = omega arith })
          | inr other ↦ rw (no_dollar.0, no_brace.0, other.0) (opens_letter c rest (is_ascii_alphabetic c) refl)
        ]
      ]
    ]

-- what a text opens with
pub opens : (text : List ℕ) → IfSome (opening_of text) (Opens text)
opens [] = tt
opens (b ∷ []) = elim (eqb_tells b 36) [ inl dollar ↦ rw dollar.0 tt | inr other ↦ rw other.0 tt ]
opens (b ∷ c ∷ rest) =
    elim (eqb_tells b 36) [
      | inl dollar ↦ rw dollar.0 (subst (λ n. IfSome (opening_after (c ∷ rest)) (Opens (n ∷ c ∷ rest))) (sym dollar.1) (opens_after c rest))
      | inr other ↦ rw other.0 tt
    ]

pub opens_with : (text : List ℕ) (opening : Opening) → opening_of text ≡ Some opening → Opens text opening
opens_with text opening is = subst (λ o. IfSome o (Opens text)) is (opens text)

abbrev pub Reader : Type 0
Reader = ℕ → List ℕ → Option (List TextAtom × List ℕ)

-- a reader that leaves out nothing of what it reads, up to the mark
abbrev pub IsFaithful : Reader → Type 0
IsFaithful up_to = (mark : ℕ) (text : List ℕ) → IfSome (up_to mark text) (λ x. sources x.0 ++ mark ∷ x.1 ≡ text)

-- an atom and what follows it are the text, and the atom is one byte or more
pub record IsAtomOf (text : List ℕ) (atom : TextAtom) (rest : List ℕ) : Type 0 where
  pub whole : source atom ++ rest ≡ text
  pub some : 0 < length (source atom)

marked_whole : (front : List ℕ) (text : List ℕ) (mark : ℕ) (read : Option (List TextAtom × List ℕ)) → 0 < length front
    → IfSome read (λ x. sources x.0 ++ mark ∷ x.1 ≡ text)
    → IfSome (option_map (marked_first front mark) read) (λ x. IsAtomOf (front ++ text) x.0 x.1)
marked_whole front text mark None some h = tt
marked_whole front text mark (Some x) some h = record {
  whole = append_assoc (front ++ sources x.0) (mark ∷ []) x.1 ∙ append_assoc front (sources x.0) (mark ∷ x.1) ∙ ap (λ l. front ++ l) h;
  some = omega (arith, length-append (front ++ sources x.0) (mark ∷ []), length-append front (sources x.0));
}

pub atom_whole : (up_to : Reader) → IsFaithful up_to → (opening : Option Opening) (text : List ℕ) → opening_of text ≡ opening
    → IfSome (atom_by up_to opening text) (λ x. IsAtomOf text x.0 x.1)
atom_whole up_to faithful None [] is = tt
atom_whole up_to faithful None (b ∷ rest) is = record { whole = refl; some = omega arith }
atom_whole up_to faithful (Some Doubled) text is =
    let h = opens_with text Doubled is in
    record { whole = ap (λ l. l ++ drop 2 text) (sym h.front) ∙ take-append-drop 2 text; some = omega arith }
atom_whole up_to faithful (Some Letter) text is =
    let h = opens_with text Letter is in
    record { whole = take-append-drop 2 text; some = subst (λ l. 0 < length l) (sym h.front.2) (omega arith) }
atom_whole up_to faithful (Some (Marked mark)) text is =
    let h = opens_with text (Marked mark) is in
    subst (λ l. IfSome (atom_by up_to (Some (Marked mark)) text) (λ x. IsAtomOf l x.0 x.1)) (take-append-drop 2 text)
    (marked_whole (take 2 text) (drop 2 text) mark (up_to mark (drop 2 text)) (omega (arith, length-take 2 text, h.room))
    (faithful mark (drop 2 text)))

whole_joined : (mark : ℕ) (text : List ℕ) (atom : TextAtom) (rest : List ℕ) (read : Option (List TextAtom × List ℕ))
    → IfSome read (λ x. sources x.0 ++ mark ∷ x.1 ≡ rest) → source atom ++ rest ≡ text
    → IfSome (option_map (atom_before atom) read) (λ x. sources x.0 ++ mark ∷ x.1 ≡ text)
whole_joined mark text atom rest None h is = tt
whole_joined mark text atom rest (Some x) h is = append_assoc (source atom) (sources x.0) (mark ∷ x.1) ∙ ap (λ l. source atom ++ l) h ∙ is

whole_with : (mark : ℕ) (text : List ℕ) (more : List ℕ → Option (List TextAtom × List ℕ)) (first : Option (TextAtom × List ℕ))
    → ((rest : List ℕ) → IfSome (more rest) (λ x. sources x.0 ++ mark ∷ x.1 ≡ rest)) → IfSome first (λ x. IsAtomOf text x.0 x.1)
    → IfSome (with_more more first) (λ x. sources x.0 ++ mark ∷ x.1 ≡ text)
whole_with mark text more None h is = tt
whole_with mark text more (Some x) h is = whole_joined mark text x.0 x.1 (more x.1) (h x.1) is.whole

pub read_faithful : (fuel : ℕ) → IsFaithful (read_up_to fuel)
unfolding read_up_to
read_faithful zero mark text = tt
read_faithful (suc fuel) mark [] = tt
read_faithful (suc fuel) mark (b ∷ rest) =
    elim (eqb_tells b mark) [
      | inl same ↦ rw same.0 (ap (λ n. n ∷ rest) (sym same.1))
      | inr other ↦ rw other.0
          (whole_with mark (b ∷ rest) (read_up_to fuel mark) (atom_by (read_up_to fuel) (opening_of (b ∷ rest)) (b ∷ rest))
          (read_faithful fuel mark) (atom_whole (read_up_to fuel) (read_faithful fuel) (opening_of (b ∷ rest)) (b ∷ rest) refl))
    ]

pub up_to_faithful : IsFaithful up_to_mark
unfolding up_to_mark
up_to_faithful mark text = read_faithful (length text) mark text

-- two readers that agree below a length read the same atom off a text of that length, and the same after it
abbrev pub AgreeBelow : ℕ → Reader → Reader → Type 0
AgreeBelow size up_to other = (mark : ℕ) (text : List ℕ) → length text < size → up_to mark text ≡ other mark text

agree_atom : (up_to other : Reader) (opening : Option Opening) (text : List ℕ) → opening_of text ≡ opening
    → AgreeBelow (length text) up_to other
    → atom_by up_to opening text ≡ atom_by other opening text
agree_atom up_to other None [] is agree = refl
agree_atom up_to other None (b ∷ rest) is agree = refl
agree_atom up_to other (Some Doubled) text is agree = refl
agree_atom up_to other (Some Letter) text is agree = refl
agree_atom up_to other (Some (Marked mark)) text is agree =
    let h = opens_with text (Marked mark) is in
    ap (option_map (marked_first (take 2 text) mark)) (agree mark (drop 2 text) (omega (arith, length-drop 2 text, h.room)))

agree_with : (up_to other : Reader) (mark : ℕ) (text : List ℕ) (first : Option (TextAtom × List ℕ))
    → IfSome first (λ x. IsAtomOf text x.0 x.1)
    → AgreeBelow (length text) up_to other → with_more (up_to mark) first ≡ with_more (other mark) first
agree_with up_to other mark text None is agree = refl
agree_with up_to other mark text (Some x) is agree =
    ap (option_map (atom_before x.0)) (agree mark x.1 (omega (arith, is.some, ap length is.whole, length-append (source x.0) x.1)))

agree_more : (up_to other : Reader) (mark : ℕ) (text : List ℕ) → IsFaithful other → AgreeBelow (length text) up_to other
    → with_more (up_to mark) (atom_by up_to (opening_of text) text) ≡ with_more (other mark) (atom_by other (opening_of text) text)
agree_more up_to other mark text faithful agree =
    ap (with_more (up_to mark)) (agree_atom up_to other (opening_of text) text refl agree)
    ∙ agree_with up_to other mark text (atom_by other (opening_of text) text) (atom_whole other faithful (opening_of text) text refl) agree

same_bound : (bound other mark : ℕ) (text : List ℕ) → length text ≤ bound → length text ≤ other
    → read_up_to bound mark text ≡ read_up_to other mark text
unfolding read_up_to
same_bound zero zero mark text low high = refl
same_bound zero (suc other) mark [] low high = refl
same_bound zero (suc other) mark (b ∷ rest) low high = absurd (omega arith)
same_bound (suc bound) zero mark [] low high = refl
same_bound (suc bound) zero mark (b ∷ rest) low high = absurd (omega arith)
same_bound (suc bound) (suc other) mark [] low high = refl
same_bound (suc bound) (suc other) mark (b ∷ rest) low high =
    ap (cond (nat_eq b mark) (Some ([], rest)))
    (agree_more (read_up_to bound) (read_up_to other) mark (b ∷ rest) (read_faithful other)
    (λ inner text near. same_bound bound other inner text (omega arith) (omega arith)))

-- more room than bytes says nothing
pub read_any : (bound mark : ℕ) (text : List ℕ) → length text ≤ bound → read_up_to bound mark text ≡ up_to_mark mark text
unfolding up_to_mark
read_any bound mark text low = same_bound bound (length text) mark text low (omega arith)

pub up_to-nil : (mark : ℕ) → up_to_mark mark [] ≡ None
unfolding up_to_mark read_up_to
up_to-nil mark = refl

read_cons : (mark b : ℕ) (rest : List ℕ)
    → read_up_to (suc (length rest)) mark (b ∷ rest) ≡ cond (nat_eq b mark) (Some ([], rest))
    (with_more (read_up_to (length rest) mark) (atom_by (read_up_to (length rest)) (opening_of (b ∷ rest)) (b ∷ rest)))
unfolding read_up_to
read_cons mark b rest = refl

pub up_to-cons : (mark b : ℕ) (rest : List ℕ) → up_to_mark mark (b ∷ rest) ≡ cond (nat_eq b mark) (Some ([], rest))
    (with_more (up_to_mark mark) (first_atom (b ∷ rest)))
unfolding first_atom
up_to-cons mark b rest =
    sym (read_any (suc (length rest)) mark (b ∷ rest) (omega arith)) ∙ read_cons mark b rest
    ∙ ap (cond (nat_eq b mark) (Some ([], rest)))
    (agree_more (read_up_to (length rest)) up_to_mark mark (b ∷ rest) up_to_faithful
    (λ inner text near. read_any (length rest) inner text (omega arith)))

pub first_whole : (text : List ℕ) → IfSome (first_atom text) (λ x. IsAtomOf text x.0 x.1)
unfolding first_atom
first_whole text = atom_whole up_to_mark up_to_faithful (opening_of text) text refl

pub first-nil : first_atom [] ≡ None
unfolding first_atom
first-nil = refl

same_on : (more other : List ℕ → List TextAtom × List ℕ) (text : List ℕ) (first : Option (TextAtom × List ℕ))
    → IfSome first (λ x. IsAtomOf text x.0 x.1)
    → ((rest : List ℕ) → length rest < length text → more rest ≡ other rest) → cut_on more text first ≡ cut_on other text first
same_on more other text None is agree = refl
same_on more other text (Some x) is agree =
    ap (atom_before x.0) (agree x.1 (omega (arith, is.some, ap length is.whole, length-append (source x.0) x.1)))

on_whole : (more : List ℕ → List TextAtom × List ℕ) (text : List ℕ) (first : Option (TextAtom × List ℕ))
    → ((rest : List ℕ) → sources (more rest).0 ++ (more rest).1 ≡ rest) → IfSome first (λ x. IsAtomOf text x.0 x.1)
    → sources (cut_on more text first).0 ++ (cut_on more text first).1 ≡ text
on_whole more text None h is = refl
on_whole more text (Some x) h is =
    append_assoc (source x.0) (sources (more x.1).0) (more x.1).1 ∙ ap (λ l. source x.0 ++ l) (h x.1) ∙ is.whole

cut_step : (bound : ℕ) (text : List ℕ) → cut_by (suc bound) text ≡ cut_on (cut_by bound) text (first_atom text)
unfolding cut_by
cut_step bound text = refl

-- cutting off atoms one after another, with room for all
same_cut : (bound other : ℕ) (text : List ℕ) → length text ≤ bound → length text ≤ other → cut_by bound text ≡ cut_by other text
unfolding cut_by first_atom
same_cut zero zero text low high = refl
same_cut zero (suc other) [] low high = refl
same_cut zero (suc other) (b ∷ rest) low high = absurd (omega arith)
same_cut (suc bound) zero [] low high = refl
same_cut (suc bound) zero (b ∷ rest) low high = absurd (omega arith)
same_cut (suc bound) (suc other) text low high =
    same_on (cut_by bound) (cut_by other) text (first_atom text) (first_whole text)
    (λ rest near. same_cut bound other rest (omega arith) (omega arith))

pub cut-next : (text : List ℕ) → cut text ≡ cut_on cut text (first_atom text)
unfolding cut
cut-next text =
    same_cut (length text) (suc (length text)) text (omega arith) (omega arith) ∙ cut_step (length text) text
    ∙ same_on (cut_by (length text)) cut text (first_atom text) (first_whole text) (λ rest near. same_cut (length text) (length rest) rest
    (omega arith) (omega arith))

cut_whole : (bound : ℕ) (text : List ℕ) → sources (cut_by bound text).0 ++ (cut_by bound text).1 ≡ text
unfolding cut_by
cut_whole zero text = refl
cut_whole (suc bound) text = on_whole (cut_by bound) text (first_atom text) (cut_whole bound) (first_whole text)

pub atoms-text : (text : List ℕ) → sources (cut text).0 ++ (cut text).1 ≡ text
unfolding cut
atoms-text text = cut_whole (length text) text

together_marked : (front : List ℕ) (mark : ℕ) (read : Option (List TextAtom × List ℕ)) → AreMarks front mark
    → IfSome (option_map (marked_first front mark) read) (λ x. IsPutTogether x.0)
together_marked front mark None marks = tt
together_marked front mark (Some x) marks = inr (record {
  front = front;
  mark = mark;
  marks = marks;
  written_as = ap (λ l. l ++ mark ∷ []) (ap (λ l. front ++ l) (sym (around_colon x.0))
      ∙ sym (append_assoc front (sources (before_colon x.0)) (with_colon (option_map sources (following_colon x.0)))));
})

pub second_of : (text : List ℕ) (letter : ℕ) → take 2 text ≡ 36 ∷ letter ∷ [] → take 1 (drop 1 text) ≡ letter ∷ []
second_of [] letter is = cc
second_of (b ∷ []) letter is = cc
second_of (b ∷ c ∷ rest) letter is = cc

together : (up_to : Reader) (opening : Option Opening) (text : List ℕ) → opening_of text ≡ opening → IfSome (atom_by up_to opening text)
    (λ x. IsPutTogether x.0)
together up_to None [] is = tt
together up_to None (b ∷ rest) is = tt
together up_to (Some Doubled) text is = tt
together up_to (Some Letter) text is =
    let h = opens_with text Letter is in
    inl (record {
      letter = h.front.0;
      is_letter = h.front.1;
      written_as = h.front.2;
      named = second_of text h.front.0
          h.front.2;
      bare = refl;
    })
together up_to (Some (Marked mark)) text is = together_marked (take 2 text) mark (up_to mark (drop 2 text))
    (opens_with text (Marked mark) is).front

pub first_together : (text : List ℕ) → IfSome (first_atom text) (λ x. IsPutTogether x.0)
unfolding first_atom
first_together text = together up_to_mark (opening_of text) text refl

on_all : (P : TextAtom → Type 0) (more : List ℕ → List TextAtom × List ℕ) (text : List ℕ) (first : Option (TextAtom × List ℕ))
    → ((rest : List ℕ) → All P (more rest).0) → IfSome first (λ x. P x.0) → All P (cut_on more text first).0
on_all P more text None h is = All-nil P
on_all P more text (Some x) h is = All-cons P x.0 (more x.1).0 is (h x.1)

by_all : (P : TextAtom → Type 0) → ((text : List ℕ) → IfSome (first_atom text) (λ x. P x.0)) → (bound : ℕ) (text : List ℕ)
    → All P (cut_by bound text).0
unfolding cut_by
by_all P first zero text = All-nil P
by_all P first (suc bound) text = on_all P (cut_by bound) text (first_atom text) (by_all P first bound) (first text)

-- what holds of the first atom of every text holds of all atoms
pub cut_all : (P : TextAtom → Type 0) → ((text : List ℕ) → IfSome (first_atom text) (λ x. P x.0)) → (text : List ℕ) → All P (cut text).0
unfolding cut
cut_all P first text = by_all P first (length text) text

pub atoms-together : (text : List ℕ) → All IsPutTogether (cut text).0
atoms-together text = cut_all IsPutTogether first_together text
