-- The name and the modifiers of a reference's inside, by the place of its first colon.
use Rattle.std.proofs.Common.{◌≡◌, ◌==◌, ℕ, ◌+◌, ◌<◌, ◌≤◌, Bool, true, false, not, cond, if◌then◌else◌, List, [], ◌∷◌, ◌++◌, length, take}
use Rattle.std.proofs.Common.{drop, Option, Some, None, option_map, refl, sym, ap, ◌∙◌, arith, append-nil, length-append, eqb-true, get_or}
use Rattle.std.proofs.Common.{subst, nat_eq}
use Rattle.std.specs.List.{flat_map, position, prefix_len}
use Rattle.std.proofs.lemmas.Grind.{common_steps}
use Rattle.mk_ref.specs.Atoms.{TextAtom, Byte, EscapedDollar, Reference, sources, before_colon, following_colon, atoms_of, left_of}
use Rattle.mk_ref.specs.Laws.{with_colon}
use Rattle.mk_ref.specs.Outside.{dollars, covered, outside}
use Rattle.mk_ref.proofs.AtomSteps.{atoms-text}
use Rattle.mk_ref.proofs.Covering.{length-outside, outside-at}
use Rattle.std.proofs.Math.Seq.{take-append_seam, drop-append-add}
use Rattle.std.proofs.lemmas.List.Quantifiers.{position-Some}
use Rattle.mk_ref.specs.AtomFacts.{around_colon}

-- a byte is no colon
abbrev pub is_other : ℕ → Bool
is_other b = not (b == 58)

other-dollars : (text more : List ℕ) → prefix_len is_other (dollars text ++ more) ≡ length text + prefix_len is_other more
other-dollars [] more = omega arith
other-dollars (b ∷ text) more = let rest = other-dollars text more in omega (arith, rest)

other-atoms : (atoms : List TextAtom) → prefix_len is_other (flat_map covered atoms) ≡ length (sources (before_colon atoms))
other-atoms [] = refl
other-atoms (Byte b ∷ atoms) =
    elim (b == 58) as (λ (t : Bool). cond (not t) (1 + prefix_len is_other (flat_map covered atoms)) 0 ≡ length
    (sources (if t then [] else (Byte b ∷ before_colon atoms)))) [
      | true ↦ refl
      | false ↦ let rest = other-atoms atoms in omega (arith, rest)
    ]
other-atoms (EscapedDollar ∷ atoms) = let rest = other-atoms atoms in omega (arith, rest)
other-atoms (Reference written name modifiers ∷ atoms) =
    other-dollars written (flat_map covered atoms) ∙ ap (λ n. length written + n) (other-atoms atoms)
    ∙ sym (length-append written (sources (before_colon atoms)))

whole-text : (text : List ℕ) → left_of text ≡ [] → sources (atoms_of text) ≡ text
whole-text text whole = sym (append-nil (sources (atoms_of text))) ∙ ap (λ l. sources (atoms_of text) ++ l) (sym whole) ∙ atoms-text text

around-text : (text : List ℕ) → left_of text ≡ [] → sources (before_colon (atoms_of text)) ++ with_colon
    (option_map sources (following_colon (atoms_of text))) ≡ text
around-text text whole = around_colon (atoms_of text) ∙ whole-text text whole

other-text : (text : List ℕ) → left_of text ≡ [] → prefix_len is_other (outside text) ≡ length (sources (before_colon (atoms_of text)))
unfolding outside
other-text text whole =
    ap (λ l. prefix_len is_other (flat_map covered (atoms_of text) ++ dollars l)) whole
    ∙ ap (prefix_len is_other) (append-nil (flat_map covered (atoms_of text))) ∙ other-atoms (atoms_of text)

-- a text put together of a name and modifiers is cut at its colon into these again
pub record IsCutAt (name : List ℕ) (modifiers : Option (List ℕ)) (text : List ℕ) : Type 0 where
  pub name_is : take (length name) text ≡ name
  pub modifiers_are : Some (drop (length name + 1) text) ≡ modifiers

cut-at : (name : List ℕ) (modifiers : Option (List ℕ)) (text : List ℕ) → name ++ with_colon modifiers ≡ text → length name < length text
    → IsCutAt name modifiers text
cut-at name None text is inside = absurd (omega (arith, inside, ap length (sym (append-nil name) ∙ is)))
cut-at name (Some modifiers) text is inside =
    subst (IsCutAt name (Some modifiers)) is (record {
      name_is = take-append_seam name (58 ∷ modifiers);
      modifiers_are = ap Some (drop-append-add name (58 ∷ modifiers) 1);
    })

-- a text without a colon is a name without modifiers
pub record IsNameAlone (name : List ℕ) (modifiers : Option (List ℕ)) (text : List ℕ) : Type 0 where
  pub name_is : text ≡ name
  pub modifiers_are : None ≡ modifiers

alone : (name : List ℕ) (modifiers : Option (List ℕ)) (text : List ℕ) → name ++ with_colon modifiers ≡ text → length text ≤ length name
    → IsNameAlone name modifiers text
alone name None text is short = record { name_is = sym is ∙ append-nil name; modifiers_are = refl }
alone name (Some modifiers) text is short = absurd (omega (arith, short, sym (length-append name (58 ∷ modifiers)) ∙ ap length is))

first-place : (bytes : List ℕ) (at : ℕ) → position (λ b. nat_eq b 58) bytes ≡ Some at → prefix_len is_other bytes ≡ at
first-place bytes at is = grind (arith, common_steps)

no-place : (bytes : List ℕ) → position (λ b. nat_eq b 58) bytes ≡ None → length bytes ≤ prefix_len is_other bytes
no-place bytes is = grind (arith, common_steps)

-- the first colon outside references is a colon of the text, after the name of this inside and before its modifiers
pub record IsColon (text : List ℕ) (at : ℕ) : Type 0 where
  pub within : at < length text
  pub colon : get_or text at 0 ≡ 58
  pub name_is : take at text ≡ sources (before_colon (atoms_of text))
  pub modifiers_are : Some (drop (at + 1) text) ≡ option_map sources (following_colon (atoms_of text))

pub first-colon : (text : List ℕ) (at : ℕ) → left_of text ≡ [] → position (λ b. nat_eq b 58) (outside text) ≡ Some at → IsColon text at
first-colon text at whole is =
    let found = position-Some (λ b. nat_eq b 58) (outside text) at 0 is in
    let colon : get_or (outside text) at 0 ≡ 58 = eqb-true (get_or (outside text) at 0) 58 found.1 in
    let name = sources (before_colon (atoms_of text)) in
    let place : length name ≡ at = sym (other-text text whole) ∙ first-place (outside text) at is in
    let inside : length name < length text = omega (arith, found.0, length-outside text, place) in
    let parts = cut-at name (option_map sources (following_colon (atoms_of text))) text (around-text text whole) inside in
    record {
      within = omega (arith, found.0, length-outside text);
      colon = sym (outside-at text at (λ dollar. omega (arith, dollar, colon))) ∙ colon;
      name_is = ap (λ n. take n text) (sym place) ∙ parts.name_is;
      modifiers_are = ap (λ n. Some (drop (n + 1) text)) (sym place) ∙ parts.modifiers_are;
    }

-- if no colon is outside references, the whole inside is the name
pub no-colon : (text : List ℕ) → left_of text ≡ [] → position (λ b. nat_eq b 58) (outside text) ≡ None
    → IsNameAlone (sources (before_colon (atoms_of text))) (option_map sources (following_colon (atoms_of text))) text
no-colon text whole is =
    let name = sources (before_colon (atoms_of text)) in
    let none = no-place (outside text) is in
    alone name (option_map sources (following_colon (atoms_of text))) text (around-text text whole)
    (omega (arith, none, other-text text whole, length-outside text))
