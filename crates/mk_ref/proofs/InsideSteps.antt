-- What is inside a reference, as far as it was read.
use Rattle.std.proofs.Common.{◌≡◌, ◌≢◌, ℕ, ◌+◌, ◌-◌, ◌<◌, ◌≤◌, Bool, true, false, cond, nat_eq, List, [], ◌∷◌, ◌++◌, length, take, drop}
use Rattle.std.proofs.Common.{get_or, Option, Some, None, option_map, IfSome, refl, sym, ap, subst, ◌∙◌, arith, inl, inr, append_assoc}
use Rattle.std.proofs.Common.{append-nil, length-drop, length-take}
use Rattle.std.specs.Prelude.{slice_range, unwrap_or}
use Rattle.std.proofs.lemmas.Bool.{eqb-true, eq-eqb, ne_eqb}
use Rattle.std.proofs.lemmas.Bool.Decides.{eqb_tells}
use Rattle.std.proofs.lemmas.List.{drop_more, append_cancel_right}
use Rattle.std.proofs.lemmas.List.Folds.{drop_split}
use Rattle.std.proofs.Math.ListN.{drop_of_length-le}
use Rattle.std.proofs.lemmas.Option.{none-some, same_Some}
use Rattle.std.proofs.lemmas.Grind.{flat_map-append}
use Rattle.mk_ref.specs.declared.opening.Opening.{Opening}
use Rattle.mk_ref.specs.declared.opening.Opening.TheVariants.{Doubled, Letter, Marked}
use Rattle.mk_ref.specs.Atoms.{TextAtom, Byte, EscapedDollar, Reference, source, sources, is_colon, before_colon, following_colon}
use Rattle.mk_ref.specs.Atoms.{opening_after, opening_of, marked_first, atom_by, atom_before, with_more, up_to_mark, first_atom}
use Rattle.mk_ref.specs.Ends.{GoesOnAt, IsInside}
use Rattle.mk_ref.proofs.ScanSteps.{up_to-atom}
use Rattle.mk_ref.proofs.AtomSteps.{up_to-nil, up_to-cons, first_whole, IsAtomOf}

-- atoms before atoms that were read
abbrev pub atoms_before : List TextAtom → List TextAtom × List ℕ → List TextAtom × List ℕ
atoms_before atoms read = (atoms ++ read.0, read.1)

-- the atoms read of what is inside a reference from `start` up to `at`, and the first colon among them
pub record InsideSoFar (text : List ℕ) (start closing : ℕ) (colon : Option ℕ) (at : ℕ) : Type 0 where
  pub atoms : List TextAtom
  pub read : up_to_mark closing (drop start text) ≡ option_map (atoms_before atoms) (up_to_mark closing (drop at text))
  pub later : start ≤ at
  pub within : at ≤ length text
  pub name : sources (before_colon atoms) ≡ slice_range text start (unwrap_or colon at)
  pub modifiers : option_map sources (following_colon atoms) ≡ option_map (λ c. slice_range text (c + 1) at) colon
  pub colon_at : IfSome colon (λ c. (start ≤ c) × (c < at) × (get_or text c 0 ≡ 58))

-- a text between two places, cut at a third between them
pub range_join : (text : List ℕ) (a b c : ℕ) → a ≤ b → b ≤ c → slice_range text a b ++ slice_range text b c ≡ slice_range text a c
range_join text a b c low high =
    append_cancel_right (slice_range text a b ++ slice_range text b c) (slice_range text a c) (drop c text)
    (append_assoc (slice_range text a b) (slice_range text b c) (drop c text)
    ∙ ap (λ l. slice_range text a b ++ l) (sym (drop_split text b c high)) ∙ sym (drop_split text a b low)
    ∙ drop_split text a c (omega arith))

-- nothing is between a place and itself
pub range_none : (text : List ℕ) (a : ℕ) → slice_range text a a ≡ []
range_none text a = let none : a - a ≡ 0 = omega arith in ap (λ n. take n (drop a text)) none

-- an atom of a text from a place up to another
pub record OccursAt (text : List ℕ) (at next : ℕ) (atom : TextAtom) : Type 0 where
  pub first : first_atom (drop at text) ≡ Some (atom, drop next text)
  pub written : source atom ≡ slice_range text at next
  pub later : at < next
  pub within : next ≤ length text

read_of : (read : Option (TextAtom × List ℕ)) (rest : List ℕ) → option_map (λ x. x.1) read ≡ Some rest → (atom : TextAtom)
    × (read ≡ Some (atom, rest))
read_of None rest is = cc
read_of (Some x) rest is = (x.0, ap (λ l. Some (x.0, l)) (same_Some x.1 rest is))

pub written_as : (text : List ℕ) (at next : ℕ) (atom : TextAtom) → at ≤ next → first_atom (drop at text) ≡ Some (atom, drop next text)
    → source atom ≡ slice_range text at next
written_as text at next atom low first =
    append_cancel_right (source atom) (slice_range text at next) (drop next text)
    ((subst (λ o. IfSome o (λ x. IsAtomOf (drop at text) x.0 x.1)) first (first_whole (drop at text))).whole ∙ drop_split text at next low)

pub stands_at : (text : List ℕ) (at next : ℕ) → GoesOnAt text at (first_atom (drop at text)) next → (atom : TextAtom)
    × OccursAt text at next atom
stands_at text at next h =
    let found = read_of (first_atom (drop at text)) (drop next text) h.rest in (
      found.0,
      record {
        first = found.1;
        written = written_as text at next found.0 (omega (arith, h.later)) found.1;
        later =
            h.later;
        within = h.within;
      },
    )

no_colon_marked : (front : List ℕ) (mark : ℕ) (read : Option (List TextAtom × List ℕ)) → IfSome (option_map (marked_first front mark) read)
    (λ x. is_colon x.0 ≡ false)
no_colon_marked front mark None = tt
no_colon_marked front mark (Some x) = refl

no_colon : (opening : Opening) (text : List ℕ) → IfSome (atom_by up_to_mark (Some opening) text) (λ x. is_colon x.0 ≡ false)
no_colon Doubled text = refl
no_colon Letter text = refl
no_colon (Marked mark) text = no_colon_marked (take 2 text) mark (up_to_mark mark (drop 2 text))

-- an atom is a colon where its first byte is one
colon_by : (opening : Option Opening) (b : ℕ) (rest : List ℕ) → opening_of (b ∷ rest) ≡ opening
    → IfSome (atom_by up_to_mark opening (b ∷ rest)) (λ x. is_colon x.0 ≡ nat_eq b 58)
colon_by None b rest is = refl
colon_by (Some opening) b rest is =
    elim (eqb_tells b 36) [
      | inl dollar ↦ rw (ap (λ n. nat_eq n 58) dollar.1) (no_colon opening (b ∷ rest))
      | inr other ↦ absurd (none-some opening (ap (λ t. cond t (opening_after rest) None) (sym other.0) ∙ is))
    ]

pub colon_first : (text : List ℕ) (at next : ℕ) (atom : TextAtom) → at < length text → OccursAt text at next atom
    → is_colon atom ≡ nat_eq (get_or text at 0) 58
unfolding first_atom
colon_first text at next atom near h =
    subst (λ o. IfSome o (λ x. is_colon x.0 ≡ nat_eq (get_or text at 0) 58)) (ap first_atom (sym (drop_more text at 0 near)) ∙ h.first)
    (colon_by (opening_of (get_or text at 0 ∷ drop (at + 1) text)) (get_or text at 0) (drop (at + 1) text) refl)

before_found_by : (test : Bool) (first : TextAtom) (atoms found : List TextAtom) (atom : TextAtom)
    → cond test (Some atoms) (following_colon atoms) ≡ Some found
    → (following_colon atoms ≡ Some found → before_colon (atoms ++ atom ∷ []) ≡ before_colon atoms)
    → cond test [] (first ∷ before_colon (atoms ++ atom ∷ [])) ≡ cond test [] (first ∷ before_colon atoms)
before_found_by true first atoms found atom is h = refl
before_found_by false first atoms found atom is h = ap (λ l. first ∷ l) (h is)

-- atoms with one more after them, if a colon is among them
before-found : (atoms found : List TextAtom) (atom : TextAtom) → following_colon atoms ≡ Some found
    → before_colon (atoms ++ atom ∷ []) ≡ before_colon atoms
before-found [] found atom is = cc
before-found (first ∷ atoms) found atom is = before_found_by (is_colon first) first atoms found atom is (before-found atoms found atom)

after_found_by : (test : Bool) (atoms found : List TextAtom) (atom : TextAtom) → cond test (Some atoms) (following_colon atoms) ≡ Some found
    → (following_colon atoms ≡ Some found → following_colon (atoms ++ atom ∷ []) ≡ Some (found ++ atom ∷ []))
    → cond test (Some (atoms ++ atom ∷ [])) (following_colon (atoms ++ atom ∷ [])) ≡ Some (found ++ atom ∷ [])
after_found_by true atoms found atom is h = ap (λ l. Some (l ++ atom ∷ [])) (same_Some atoms found is)
after_found_by false atoms found atom is h = h is

after-found : (atoms found : List TextAtom) (atom : TextAtom) → following_colon atoms ≡ Some found → following_colon (atoms ++ atom ∷ []) ≡
    Some (found ++ atom ∷ [])
after-found [] found atom is = cc
after-found (first ∷ atoms) found atom is = after_found_by (is_colon first) atoms found atom is (after-found atoms found atom)

before_none_by : (test : Bool) (first : TextAtom) (atoms more : List TextAtom) → cond test (Some atoms) (following_colon atoms) ≡ None
    → (following_colon atoms ≡ None → before_colon (atoms ++ more) ≡ atoms ++ before_colon more)
    → cond test [] (first ∷ before_colon (atoms ++ more)) ≡ first ∷ atoms ++ before_colon more
before_none_by true first atoms more is h = cc
before_none_by false first atoms more is h = ap (λ l. first ∷ l) (h is)

-- the same if no colon is among them
pub before-none : (atoms more : List TextAtom) → following_colon atoms ≡ None → before_colon (atoms ++ more) ≡ atoms ++ before_colon more
before-none [] more is = refl
before-none (first ∷ atoms) more is = before_none_by (is_colon first) first atoms more is (before-none atoms more)

after_none_by : (test : Bool) (atoms more : List TextAtom) → cond test (Some atoms) (following_colon atoms) ≡ None
    → (following_colon atoms ≡ None → following_colon (atoms ++ more) ≡ following_colon more)
    → cond test (Some (atoms ++ more)) (following_colon (atoms ++ more)) ≡ following_colon more
after_none_by true atoms more is h = cc
after_none_by false atoms more is h = h is

pub after-none : (atoms more : List TextAtom) → following_colon atoms ≡ None → following_colon (atoms ++ more) ≡ following_colon more
after-none [] more is = refl
after-none (first ∷ atoms) more is = after_none_by (is_colon first) atoms more is (after-none atoms more)

before-all : (atoms : List TextAtom) → following_colon atoms ≡ None → before_colon atoms ≡ atoms
before-all atoms none = ap before_colon (sym (append-nil atoms)) ∙ before-none atoms [] none ∙ append-nil atoms

colon_one : (atom : TextAtom) → is_colon atom ≡ true → length (source atom) ≡ 1
colon_one (Byte b) is = refl
colon_one EscapedDollar is = cc
colon_one (Reference written name modifiers) is = cc

pub length-range : (text : List ℕ) (start end : ℕ) → start ≤ end → end ≤ length text → length (slice_range text start end) ≡ end - start
length-range text start end low high = omega (arith, length-take (end - start) (drop start text), length-drop start text)

-- a colon is one byte
colon_end : (text : List ℕ) (at next : ℕ) (atom : TextAtom) → OccursAt text at next atom → is_colon atom ≡ true → next ≡ at + 1
colon_end text at next atom h colon =
    let size = length-range text at next (omega (arith, h.later)) h.within in
    omega (arith, colon_one atom colon, ap length h.written, size, h.later)

read_push : (atoms : List TextAtom) (atom : TextAtom) (read : Option (List TextAtom × List ℕ))
    → option_map (atoms_before atoms) (option_map (atom_before atom) read) ≡ option_map (atoms_before (atoms ++ atom ∷ [])) read
read_push atoms atom None = refl
read_push atoms atom (Some x) = ap (λ l. Some (l, x.1)) (sym (append_assoc atoms (atom ∷ []) x.0))

up_to-here : (text : List ℕ) (mark at : ℕ) → at < length text → get_or text at 0 ≢ mark → up_to_mark mark (drop at text) ≡ with_more
    (up_to_mark mark) (first_atom (drop at text))
up_to-here text mark at near other =
    let from = drop_more text at 0 near in
    ap (up_to_mark mark) from ∙ up_to-atom mark (get_or text at 0) (drop (at + 1) text) (ne_eqb (get_or text at 0) mark other)
    ∙ ap (λ l. with_more (up_to_mark mark) (first_atom l)) (sym from)

up_to-mark : (text : List ℕ) (mark at : ℕ) → at < length text → get_or text at 0 ≡ mark → up_to_mark mark (drop at text) ≡ Some
    ([], drop (at + 1) text)
up_to-mark text mark at near is =
    ap (up_to_mark mark) (drop_more text at 0 near) ∙ up_to-cons mark (get_or text at 0) (drop (at + 1) text)
    ∙ ap (λ t. cond t (Some ([], drop (at + 1) text)) (with_more (up_to_mark mark) (first_atom (get_or text at 0 ∷ drop (at + 1) text))))
    (eq-eqb (get_or text at 0) mark is)

read_more : (text : List ℕ) (start closing : ℕ) (colon : Option ℕ) (at next : ℕ) (atom : TextAtom)
    (h : InsideSoFar text start closing colon at)
    → at < length text → get_or text at 0 ≢ closing → OccursAt text at next atom
    → up_to_mark closing (drop start text) ≡ option_map (atoms_before (h.atoms ++ atom ∷ [])) (up_to_mark closing (drop next text))
read_more text start closing colon at next atom h near other stands =
    h.read
    ∙ ap (option_map (atoms_before h.atoms)) (up_to-here text closing at near other ∙ ap (with_more (up_to_mark closing)) stands.first)
    ∙ read_push h.atoms atom (up_to_mark closing (drop next text))

-- the first colon so far, with one more atom read, whose first byte is at a place
abbrev pub colon_after : Option ℕ → ℕ → ℕ → Option ℕ
colon_after None b at = cond (nat_eq b 58) (Some at) None
colon_after (Some colon) b at = Some colon

found_of : (found : Option (List TextAtom)) (text : List ℕ) → option_map sources found ≡ Some text → (atoms : List TextAtom)
    × (found ≡ Some atoms) × (sources atoms ≡ text)
found_of None text is = cc
found_of (Some atoms) text is = (atoms, refl, same_Some (sources atoms) text is)

none_of : (found : Option (List TextAtom)) → option_map sources found ≡ None → found ≡ None
none_of None is = refl
none_of (Some atoms) is = cc

sources_push : (atoms : List TextAtom) (atom : TextAtom) → sources (atoms ++ atom ∷ []) ≡ sources atoms ++ source atom
sources_push atoms atom = flat_map-append source atoms (atom ∷ []) ∙ ap (λ l. sources atoms ++ l) (append-nil (source atom))

-- an atom after the first colon
more_after : (text : List ℕ) (start closing colon at next : ℕ) (atom : TextAtom) → InsideSoFar text start closing (Some colon) at
    → at < length text → get_or text at 0 ≢ closing → OccursAt text at next atom → InsideSoFar text start closing (Some colon) next
more_after text start closing colon at next atom h near other stands =
    let found = found_of (following_colon h.atoms) (slice_range text (colon + 1) at) h.modifiers in
    record {
      atoms = h.atoms ++ atom ∷ [];
      read = read_more text start closing (Some colon) at next atom h near other stands;
      later = omega (arith, h.later, stands.later);
      within = stands.within;
      name = ap sources (before-found h.atoms found.0 atom found.1) ∙ h.name;
      modifiers = ap (option_map sources) (after-found h.atoms found.0 atom found.1)
          ∙ ap Some (sources_push found.0 atom ∙ ap (λ l. l ++ source atom) found.2
          ∙ ap (λ l. slice_range text (colon + 1) at ++ l) stands.written
          ∙ range_join text (colon + 1) at next (omega (arith, h.colon_at.1)) (omega (arith, stands.later)));
      colon_at = (h.colon_at.0, omega (arith, h.colon_at.1, stands.later), h.colon_at.2);
    }

-- an atom before any colon, by whether it is one
more_before : (test : Bool) (text : List ℕ) (start closing at next : ℕ) (atom : TextAtom) → nat_eq (get_or text at 0) 58 ≡ test
    → InsideSoFar text start closing None at
    → at < length text → get_or text at 0 ≢ closing → OccursAt text at next atom
    → InsideSoFar text start closing (cond test (Some at) None) next
more_before false text start closing at next atom is h near other stands =
    let none = none_of (following_colon h.atoms) h.modifiers in
    let plain = colon_first text at next atom near stands ∙ is in
    record {
      atoms = h.atoms ++ atom ∷ [];
      read = read_more text start closing None at next atom h near other stands;
      later = omega (arith, h.later, stands.later);
      within = stands.within;
      name = ap sources (before-none h.atoms (atom ∷ []) none ∙ ap (λ t. h.atoms ++ cond t [] (atom ∷ [])) plain)
          ∙ sources_push h.atoms atom ∙ ap (λ l. l ++ source atom) (ap sources (sym (before-all h.atoms none)) ∙ h.name)
          ∙ ap (λ l. slice_range text start at ++ l) stands.written ∙ range_join text start at next h.later (omega (arith, stands.later));
      modifiers = ap (option_map sources) (after-none h.atoms (atom ∷ []) none ∙ ap (λ t. cond t (Some []) None) plain);
      colon_at = tt;
    }
more_before true text start closing at next atom is h near other stands =
    let none = none_of (following_colon h.atoms) h.modifiers in
    let plain = colon_first text at next atom near stands ∙ is in
    record {
      atoms = h.atoms ++ atom ∷ [];
      read = read_more text start closing None at next atom h near other stands;
      later = omega (arith, h.later, stands.later);
      within = stands.within;
      name = ap sources (before-none h.atoms (atom ∷ []) none ∙ ap (λ t. h.atoms ++ cond t [] (atom ∷ [])) plain ∙ append-nil h.atoms
          ∙ sym (before-all h.atoms none)) ∙ h.name;
      modifiers = ap (option_map sources) (after-none h.atoms (atom ∷ []) none ∙ ap (λ t. cond t (Some []) None) plain)
          ∙ ap Some (sym (range_none text (at + 1)) ∙ ap (slice_range text (at + 1)) (sym (colon_end text at next atom stands plain)));
      colon_at = (h.later, stands.later, eqb-true (get_or text at 0) 58 is);
    }

-- one more atom read inside a reference
pub inside-more : (text : List ℕ) (start closing : ℕ) (colon : Option ℕ) (at next : ℕ) → InsideSoFar text start closing colon at
    → at < length text → get_or text at 0 ≢ closing → GoesOnAt text at (first_atom (drop at text)) next
    → InsideSoFar text start closing (colon_after colon (get_or text at 0) at) next
inside-more text start closing None at next h near other goes =
    let found = stands_at text at next goes in
    more_before (nat_eq (get_or text at 0) 58) text start closing at next found.0 refl h near other found.1
inside-more text start closing (Some colon) at next h near other goes =
    let found = stands_at text at next goes in
    more_after text start closing colon at next found.0 h near other found.1

-- the closing mark is met
pub inside-close : (text : List ℕ) (start closing : ℕ) (colon : Option ℕ) (at : ℕ) → InsideSoFar text start closing colon at
    → at < length text → get_or text at 0 ≡ closing → IsInside text start closing (record { colon = colon; close = at })
inside-close text start closing colon at h near is = record {
  atoms = h.atoms;
  read = h.read ∙ ap (option_map (atoms_before h.atoms)) (up_to-mark text closing at near is)
      ∙ ap (λ l. Some (l, drop (at + 1) text)) (append-nil h.atoms);
  later = h.later;
  within = near;
  marked = is;
  name = h.name;
  modifiers = h.modifiers;
  colon = h.colon_at;
}

-- an atom begins that doesn't end
pub inside-broken : (text : List ℕ) (start closing : ℕ) (colon : Option ℕ) (at : ℕ) → InsideSoFar text start closing colon at
    → at < length text → get_or text at 0 ≢ closing → first_atom (drop at text) ≡ None → up_to_mark closing (drop start text) ≡ None
inside-broken text start closing colon at h near other none =
    h.read ∙ ap (option_map (atoms_before h.atoms)) (up_to-here text closing at near other ∙ ap (with_more (up_to_mark closing)) none)

-- no closing mark is in the text
pub inside-end : (text : List ℕ) (start closing : ℕ) (colon : Option ℕ) (at : ℕ) → InsideSoFar text start closing colon at
    → length text ≤ at → up_to_mark closing (drop start text) ≡ None
inside-end text start closing colon at h end =
    h.read ∙ ap (option_map (atoms_before h.atoms)) (ap (up_to_mark closing) (drop_of_length-le text end) ∙ up_to-nil closing)
