-- The name of a reference, as far as it was read.
use Rattle.std.proofs.Common.{◌≡◌, ◌≢◌, ℕ, ◌+◌, ◌<◌, ◌≤◌, true, false, cond, List, [], ◌∷◌, ◌++◌, length, take, drop, get_or, Option, Some}
use Rattle.std.proofs.Common.{None, option_map, refl, sym, ap, subst, ◌∙◌, ◌⊎◌, arith, inl, inr, append_assoc, append-nil, lit<}
use Rattle.std.specs.Prelude.{slice_range, ◌||◌}
use Rattle.std.specs.List.{list_any}
use Rattle.std.proofs.lemmas.Bool.{eq-eqb, ne_eqb}
use Rattle.std.proofs.lemmas.Bool.Decides.{eqb_tells}
use Rattle.std.proofs.lemmas.List.{drop_more}
use Rattle.std.proofs.lemmas.List.Folds.{list_any-append}
use Rattle.std.proofs.Math.ListN.{drop_of_length-le}
use Rattle.std.proofs.lemmas.Option.{none-some, same_Some}
use Rattle.std.proofs.lemmas.Grind.{flat_map-append}
use Rattle.std.proofs.Math.Bool.{or-true}
use Rattle.mk_ref.specs.declared.opening.Opening.TheVariants.{Letter, Marked}
use Rattle.mk_ref.specs.Atoms.{TextAtom, Byte, Reference, source, sources, is_colon, before_colon, following_colon, opening_of}
use Rattle.mk_ref.specs.Atoms.{marked_first, atom_before, with_more, up_to_mark, first_atom}
use Rattle.mk_ref.proofs.AtomSteps.{up_to-nil, up_to-cons}
use Rattle.mk_ref.proofs.ScanSteps.{up_to-atom, first-opening, first-marked}
use Rattle.mk_ref.proofs.InsideSteps.{atoms_before, OccursAt, range_join, before-none, after-none}
use Rattle.mk_loop.specs.LoopWords.{is_reference}
use Rattle.mk_loop.specs.Places.{NameEnds, EndsName}

-- the atoms of a name from `start` up to `at`
pub record NameSoFar (text : List ℕ) (start mark at : ℕ) : Type 0 where
  pub atoms : List TextAtom
  pub read : up_to_mark mark (drop start text) ≡ option_map (atoms_before atoms) (up_to_mark mark (drop at text))
  pub later : start ≤ at
  pub within : at ≤ length text
  pub plain : list_any is_reference atoms ≡ false
  pub uncoloned : following_colon atoms ≡ None
  pub name : sources atoms ≡ slice_range text start at

before-one : (atoms : List TextAtom) (atom : TextAtom) (read : Option (List TextAtom × List ℕ))
    → option_map (atoms_before atoms) (option_map (atom_before atom) read) ≡ option_map (atoms_before (atoms ++ atom ∷ [])) read
before-one atoms atom None = refl
before-one atoms atom (Some x) = ap (λ l. Some (l, x.1)) (sym (append_assoc atoms (atom ∷ []) x.0))

uncolon : (atom : TextAtom) → is_colon atom ≡ false → following_colon (atom ∷ []) ≡ None
uncolon atom other = ap (λ t. cond t (Some []) None) other

-- one atom more, which is no colon and no reference
pub name-more : (text : List ℕ) (start mark at next : ℕ) (atom : TextAtom) → NameSoFar text start mark at → at < length text
    → get_or text at 0 ≢ mark
    → OccursAt text at next atom → is_reference atom ≡ false → is_colon atom ≡ false → NameSoFar text start mark next
name-more text start mark at next atom h near other stands plain uncoloned = record {
  atoms = h.atoms ++ atom ∷ [];
  read = h.read ∙ ap (option_map (atoms_before h.atoms))
      (ap (up_to_mark mark) (drop_more text at 0 near) ∙ up_to-atom mark (get_or text at 0) (drop (at + 1) text)
      (ne_eqb (get_or text at 0) mark other)
      ∙ ap (λ l. with_more (up_to_mark mark) (first_atom l)) (sym (drop_more text at 0 near))
      ∙ ap (with_more (up_to_mark mark)) stands.first)
      ∙ before-one h.atoms atom (up_to_mark mark (drop next text));
  later = omega (arith, h.later, stands.later);
  within = stands.within;
  plain = list_any-append is_reference h.atoms (atom ∷ []) ∙ ap (λ t. t || (is_reference atom || false)) h.plain
      ∙ ap (λ t. t || false) plain;
  uncoloned = after-none h.atoms (atom ∷ []) h.uncoloned ∙ uncolon atom uncoloned;
  name = flat_map-append source h.atoms (atom ∷ []) ∙ ap (λ l. l ++ (source atom ++ [])) h.name ∙ ap (λ l. slice_range text start at ++ l)
      (append-nil (source atom) ∙ stands.written)
      ∙ range_join text start at next h.later (omega (arith, stands.later));
}

-- what is read inside goes on from here
pub record GoesOnWith (text : List ℕ) (mark at : ℕ) (atoms inside : List TextAtom) (rest : List ℕ) : Type 0 where
  pub more : List TextAtom
  pub is : inside ≡ atoms ++ more
  pub read : up_to_mark mark (drop at text) ≡ Some (more, rest)

goes-on-with : (text : List ℕ) (mark at : ℕ) (atoms inside : List TextAtom) (rest : List ℕ) (read : Option (List TextAtom × List ℕ))
    → up_to_mark mark (drop at text) ≡ read
    → option_map (atoms_before atoms) read ≡ Some (inside, rest) → GoesOnWith text mark at atoms inside rest
goes-on-with text mark at atoms inside rest None read is = cc
goes-on-with text mark at atoms inside rest (Some x) read is =
    let same = same_Some (atoms ++ x.0, x.1) (inside, rest) is in
    record { more = x.0; is = sym (ap (λ y. y.0) same); read = read ∙ ap (λ l. Some (x.0, l)) (ap (λ y. y.1) same) }

pub name-goes-on : (text : List ℕ) (start mark at : ℕ) (inside : List TextAtom) (rest : List ℕ) (h : NameSoFar text start mark at)
    → up_to_mark mark (drop start text) ≡ Some (inside, rest)
    → GoesOnWith text mark at h.atoms inside rest
name-goes-on text start mark at inside rest h is = goes-on-with text mark at h.atoms inside rest
    (up_to_mark mark (drop at text)) refl (sym h.read ∙ is)

split-one : (atom : TextAtom) (read : Option (List TextAtom × List ℕ)) (more : List TextAtom) (rest : List ℕ)
    → option_map (atom_before atom) read ≡ Some (more, rest)
    → (later : List TextAtom) × ((more ≡ atom ∷ later) × (read ≡ Some (later, rest)))
split-one atom None more rest is = cc
split-one atom (Some x) more rest is =
    let same = same_Some (atom ∷ x.0, x.1) (more, rest) is in
    (x.0, (sym (ap (λ y. y.0) same), ap (λ l. Some (x.0, l)) (ap (λ y. y.1) same)))

ends-at-mark : (text : List ℕ) (start mark at : ℕ) (h : NameSoFar text start mark at) → at < length text → get_or text at 0 ≡ mark
    → (inside : List TextAtom) (rest : List ℕ) → up_to_mark mark (drop start text) ≡ Some (inside, rest)
    → NameEnds text start mark at inside rest
ends-at-mark text start mark at h near here inside rest is =
    let on = name-goes-on text start mark at inside rest h is in
    let read : up_to_mark mark (drop at text) ≡ Some ([], drop (at + 1) text) =
    ap (up_to_mark mark) (drop_more text at 0 near) ∙ up_to-cons mark (get_or text at 0) (drop (at + 1) text)
    ∙ ap (λ t. cond t (Some ([], drop (at + 1) text)) (with_more (up_to_mark mark) (first_atom (get_or text at 0 ∷ drop (at + 1) text))))
    (eq-eqb (get_or text at 0) mark here) in
    let same = same_Some (on.more, rest) ([], drop (at + 1) text) (sym on.read ∙ read) in
    let all : inside ≡ h.atoms = on.is ∙ ap (λ l. h.atoms ++ l) (ap (λ x. x.0) same) ∙ append-nil h.atoms in
    let before : before_colon inside ≡ h.atoms = ap before_colon on.is ∙ before-none h.atoms on.more h.uncoloned
    ∙ ap (λ l. h.atoms ++ before_colon l) (ap (λ x. x.0) same) ∙ append-nil h.atoms in
    record {
      plain = ap (list_any is_reference) before ∙ h.plain;
      name = ap sources before ∙ h.name;
      closes = λ _. (ap following_colon all ∙ h.uncoloned, ap (λ x. x.1) same);
      goes_on = λ other. absurd (other here);
    }

first-colon : (text : List ℕ) (at : ℕ) → at < length text → get_or text at 0 ≡ 58
    → first_atom (drop at text) ≡ Some (Byte 58, drop (at + 1) text)
unfolding first_atom
first-colon text at near colon = ap first_atom (drop_more text at 0 near) ∙ ap (λ b. first_atom (b ∷ drop (at + 1) text)) colon

ends-at-colon : (text : List ℕ) (start mark at : ℕ) (h : NameSoFar text start mark at) → at < length text
    → get_or text at 0 ≢ mark → get_or text at 0 ≡ 58
    → (inside : List TextAtom) (rest : List ℕ) → up_to_mark mark (drop start text) ≡ Some (inside, rest)
    → NameEnds text start mark at inside rest
ends-at-colon text start mark at h near other colon inside rest is =
    let on = name-goes-on text start mark at inside rest h is in
    let read : up_to_mark mark (drop at text) ≡ option_map (atom_before (Byte 58)) (up_to_mark mark (drop (at + 1) text)) =
    ap (up_to_mark mark) (drop_more text at 0 near) ∙ up_to-atom mark (get_or text at 0) (drop (at + 1) text)
    (ne_eqb (get_or text at 0) mark other)
    ∙ ap (λ l. with_more (up_to_mark mark) (first_atom l)) (sym (drop_more text at 0 near))
    ∙ ap (with_more (up_to_mark mark)) (first-colon text at near colon) in
    let split = split-one (Byte 58) (up_to_mark mark (drop (at + 1) text)) on.more rest (sym read ∙ on.read) in
    let all : inside ≡ h.atoms ++ Byte 58 ∷ split.0 = on.is ∙ ap (λ l. h.atoms ++ l) split.1.0 in
    let before : before_colon inside ≡ h.atoms = ap before_colon all ∙ before-none h.atoms (Byte 58 ∷ split.0)
    h.uncoloned ∙ append-nil h.atoms in
    record {
      plain = ap (list_any is_reference) before ∙ h.plain;
      name = ap sources before ∙ h.name;
      closes = λ here. absurd (other here);
      goes_on = λ _. (split.0, (ap following_colon all ∙ after-none h.atoms (Byte 58 ∷ split.0) h.uncoloned, split.1.1));
    }

-- the name ends at its mark, or at a colon
pub name-ends : (text : List ℕ) (start mark at : ℕ) → NameSoFar text start mark at → mark < 128 → at < length text
    → (get_or text at 0 ≡ mark) ⊎ (get_or text at 0 ≡ 58) → EndsName text start mark (Some at)
name-ends text start mark at h ascii near behind = (
  h.later,
  near,
  elim behind [ inl here ↦ subst (λ b. b < 128) (sym here) ascii | inr colon ↦ subst (λ b. b < 128) (sym colon) (lit< tt) ],
  λ inside rest is. elim (eqb_tells (get_or text at 0) mark) [
    | inl here ↦ ends-at-mark text start mark at h near here.1 inside rest is
    | inr other ↦ elim behind [
      | inl here ↦ ends-at-mark text start mark at h near here inside rest is
      | inr colon ↦ ends-at-colon text start mark at h near
          (λ here. absurd (let no : true ≡ false = sym (eq-eqb (get_or text at 0) mark here) ∙ other.0 in cc)) colon inside rest is
    ]
  ],
)

any-here : (atoms more : List TextAtom) (atom : TextAtom) → is_reference atom ≡ true → list_any is_reference (atoms ++ atom ∷ more) ≡ true
any-here [] more atom is = ap (λ t. t || list_any is_reference more) is
any-here (first ∷ atoms) more atom is = ap (λ t. is_reference first || t) (any-here atoms more atom is) ∙ or-true (is_reference first)

reference-here : (text : List ℕ) (start mark at : ℕ) (atom : TextAtom) (behind : List ℕ) → NameSoFar text start mark at → at < length text
    → get_or text at 0 ≢ mark
    → first_atom (drop at text) ≡ Some (atom, behind) → is_reference atom ≡ true → is_colon atom ≡ false → EndsName text start mark None
reference-here text start mark at atom behind h near other first is plain inside rest read =
    let on = name-goes-on text start mark at inside rest h read in
    let here : up_to_mark mark (drop at text) ≡ option_map (atom_before atom) (up_to_mark mark behind) =
    ap (up_to_mark mark) (drop_more text at 0 near) ∙ up_to-atom mark (get_or text at 0) (drop (at + 1) text)
    (ne_eqb (get_or text at 0) mark other)
    ∙ ap (λ l. with_more (up_to_mark mark) (first_atom l)) (sym (drop_more text at 0 near)) ∙ ap (with_more (up_to_mark mark)) first in
    let split = split-one atom (up_to_mark mark behind) on.more rest (sym here ∙ on.read) in
    let before : before_colon inside ≡ h.atoms ++ atom ∷ before_colon split.0 =
    ap before_colon (on.is ∙ ap (λ l. h.atoms ++ l) split.1.0) ∙ before-none h.atoms (atom ∷ split.0) h.uncoloned
    ∙ ap (λ t. h.atoms ++ cond t [] (atom ∷ before_colon split.0)) plain in
    ap (list_any is_reference) before ∙ any-here h.atoms (before_colon split.0) atom is

-- a reference of one letter is in the name
pub name-letter : (text : List ℕ) (start mark at : ℕ) → NameSoFar text start mark at → at < length text → get_or text at 0 ≢ mark
    → opening_of (drop at text) ≡ Some Letter → EndsName text start mark None
name-letter text start mark at h near other opens =
    reference-here text start mark at (Reference (take 2 (drop at text)) (take 1 (drop 1 (drop at text))) None) (drop 2 (drop at text)) h
    near other (first-opening (drop at text) (Some Letter) opens) refl refl

marked-here : (text : List ℕ) (start mark at inner : ℕ) (read : Option (List TextAtom × List ℕ)) → NameSoFar text start mark at
    → at < length text → get_or text at 0 ≢ mark
    → opening_of (drop at text) ≡ Some (Marked inner) → up_to_mark inner (drop (at + 2) text) ≡ read → EndsName text start mark None
marked-here text start mark at inner None h near other opens read = λ inside rest is.
    let on = name-goes-on text start mark at inside rest h is in
    let here : up_to_mark mark (drop at text) ≡ None =
    ap (up_to_mark mark) (drop_more text at 0 near) ∙ up_to-atom mark (get_or text at 0) (drop (at + 1) text)
    (ne_eqb (get_or text at 0) mark other)
    ∙ ap (λ l. with_more (up_to_mark mark) (first_atom l)) (sym (drop_more text at 0 near))
    ∙ ap (with_more (up_to_mark mark)) (first-marked text at inner opens
    ∙ ap (option_map (marked_first (take 2 (drop at text)) inner)) read) in
    absurd (none-some (on.more, rest) (sym here ∙ on.read))
marked-here text start mark at inner (Some x) h near other opens read =
    reference-here text start mark at (marked_first (take 2 (drop at text)) inner x).0 x.1 h near other
    (first-marked text at inner opens ∙ ap (option_map (marked_first (take 2 (drop at text)) inner)) read) refl refl

-- a reference with marks is in the name
pub name-marked : (text : List ℕ) (start mark at inner : ℕ) → NameSoFar text start mark at → at < length text → get_or text at 0 ≢ mark
    → opening_of (drop at text) ≡ Some (Marked inner) → EndsName text start mark None
name-marked text start mark at inner h near other opens = marked-here text start mark at inner
    (up_to_mark inner (drop (at + 2) text)) h near other opens refl

-- nothing closes the reference
pub name-open : (text : List ℕ) (start mark at : ℕ) → NameSoFar text start mark at → length text ≤ at → EndsName text start mark None
name-open text start mark at h end inside rest is =
    let on = name-goes-on text start mark at inside rest h is in
    absurd (none-some (on.more, rest) (sym (ap (up_to_mark mark) (drop_of_length-le text end) ∙ up_to-nil mark) ∙ on.read))
