-- Beside a way that is longer than there are arrows there is a shorter one: it goes over some arrow twice, and what lies between is left
-- out.
use Rattle.std.proofs.Common.{◌≡◌, ◌∙◌, sym, ap, refl, subst, ℕ, zero, suc, ◌≤◌, ◌<◌, Bool, true, false, not, ◌&&◌, ◌||◌, cond, List, []}
use Rattle.std.proofs.Common.{◌∷◌, length, arith, inl, inr}
use Rattle.std.proofs.lemmas.Bool.{cases_Bool, false≢true, and_parts}
use Rattle.std.proofs.lemmas.List.Elements.{All-cons, All-nil}
use Rattle.std.specs.List.{Contains, All, filter, list_any}
use Rattle.std.specs.Str.{bytes_eq}
use Rattle.text_graph.specs.Arrows.{ArrowValue, Lead}
use Rattle.text_graph.proofs.Members.{nothing_in, head_or_tail, in_filter, from_filter, equal_texts, equal_itself}
use Rattle.text_graph.proofs.Ways.{first_of, behind_first}

neither : (p q : Bool) → p || q ≡ false → (p ≡ false) × (q ≡ false)
neither true q h = absurd (false≢true (sym h))
neither false q h = (refl, h)

-- two arrows are one
abbrev same_arrow : ArrowValue → ArrowValue → Bool
same_arrow a b = bytes_eq a.from b.from && bytes_eq a.to b.to

one_arrow : (a b : ArrowValue) → same_arrow a b ≡ true → a ≡ b
one_arrow a b same =
    let ends = and_parts (bytes_eq a.from b.from) (bytes_eq a.to b.to) same in
    λ i. record { from = equal_texts a.from b.from ends.0 i; to = equal_texts a.to b.to ends.1 i }

same_itself : (a : ArrowValue) → same_arrow a a ≡ true
same_itself a = ap (λ p. p && bytes_eq a.to a.to) (equal_itself a.from) ∙ equal_itself a.to

-- the other arrows
abbrev without : ArrowValue → List ArrowValue → List ArrowValue
without a arrows = filter (λ (b : ArrowValue). not (same_arrow a b)) arrows

module _ {X : Type 0} where
  at_most : (p : Bool) (x : X) (xs : List X) (n : ℕ) → length xs ≤ n → length (cond p (x ∷ xs) xs) ≤ suc n
  at_most true x xs n few = omega (arith, few)
  at_most false x xs n few = omega (arith, few)

  kept : (p : Bool) (x : X) (xs : List X) (n : ℕ) → length xs < n → length (cond p (x ∷ xs) xs) < suc n
  kept true x xs n few = omega (arith, few)
  kept false x xs n few = omega (arith, few)

  left_out : (p : Bool) (x : X) (xs : List X) (n : ℕ) → p ≡ false → length xs ≤ n → length (cond p (x ∷ xs) xs) < suc n
  left_out true x xs n is few = absurd (false≢true (sym is))
  left_out false x xs n is few = omega (arith, few)

  length-filter : (p : X → Bool) (xs : List X) → length (filter p xs) ≤ length xs
  length-filter p [] = omega arith
  length-filter p (x ∷ xs) = at_most (p x) x (filter p xs) (length xs) (length-filter p xs)

fewer : (a : ArrowValue) (arrows : List ArrowValue) → Contains arrows a → length (without a arrows) < length arrows
fewer a [] stands = nothing_in a stands
fewer a (x ∷ xs) stands =
    elim (head_or_tail x xs a stands) [
      | inl is ↦ left_out (not (same_arrow a x)) x (without a xs) (length xs)
          (ap not (ap (same_arrow a) is ∙ same_itself a)) (length-filter _ xs)
      | inr c ↦ kept (not (same_arrow a x)) x (without a xs) (length xs) (fewer a xs c)
    ]

-- a way over arrows, after its first one
record Behind (arrows : List ArrowValue) (a : ArrowValue) (to : List ℕ) (most : ℕ) : Type 0 where
  pub way : List ArrowValue
  pub are_arrows : All (Contains arrows) (a ∷ way)
  pub lead : Lead way a.to to
  pub fits : length way < most

-- the rest of a way from an arrow on that it goes over
from_arrow : (arrows : List ArrowValue) (a : ArrowValue) (way : List ArrowValue) (from to : List ℕ) → list_any (same_arrow a) way ≡ true
    → All (Contains arrows) way
    → Lead way from to → Behind arrows a to (length way)
unfolding Lead
from_arrow arrows a [] from to goes all lead = absurd (false≢true goes)
from_arrow arrows a (b ∷ way) from to goes all lead =
    elim (cases_Bool (same_arrow a b)) [
      | inl is ↦
          let same : b ≡ a = sym (one_arrow a b is) in
          record {
            way = way;
            are_arrows = subst (λ s. All (Contains arrows) (s ∷ way)) same all;
            lead =
                subst (λ (s : ArrowValue). Lead way s.to to) same lead.1;
            fits = omega arith;
          }
      | inr other ↦
          let later = ap (λ p. p || list_any (same_arrow a) way) (sym other) ∙ goes in
          let rest = from_arrow arrows a way b.to to later (behind_first (Contains arrows) b way all) lead.1 in
          record { way = rest.way; are_arrows = rest.are_arrows; lead = rest.lead; fits = omega (arith, rest.fits) }
    ]

-- a way that doesn't go over an arrow goes over the others
over_others : (arrows : List ArrowValue) (a : ArrowValue) (way : List ArrowValue) → list_any (same_arrow a) way ≡ false
    → All (Contains arrows) way → All (Contains (without a arrows)) way
over_others arrows a [] never all = All-nil (Contains (without a arrows))
over_others arrows a (b ∷ way) never all =
    let apart = neither (same_arrow a b) (list_any (same_arrow a) way) never in
    All-cons (Contains (without a arrows)) b way (in_filter _ arrows b (first_of (Contains arrows) b way all) (ap not apart.0))
    (over_others arrows a way apart.1 (behind_first (Contains arrows) b way all))

over_all : (arrows : List ArrowValue) (a : ArrowValue) (way : List ArrowValue) → All (Contains (without a arrows)) way
    → All (Contains arrows) way
over_all arrows a [] all = All-nil (Contains arrows)
over_all arrows a (b ∷ way) all =
    All-cons (Contains arrows) b way (from_filter _ arrows b (first_of (Contains (without a arrows)) b way all)).0
    (over_all arrows a way (behind_first (Contains (without a arrows)) b way all))

-- a way over at most as many arrows as there are
pub record Short (arrows : List ArrowValue) (from to : List ℕ) : Type 0 where
  pub way : List ArrowValue
  pub are_arrows : All (Contains arrows) way
  pub lead : Lead way from to
  pub fits : length way ≤ length arrows

pub short : (most : ℕ) (arrows way : List ArrowValue) (from to : List ℕ) → length way ≤ most → All (Contains arrows) way
    → Lead way from to → Short arrows from to
unfolding Lead
short most arrows [] from to fits all lead = record { way = []; are_arrows = all; lead = lead; fits = omega arith }
short zero arrows (a ∷ way) from to fits all lead = absurd (omega (arith, fits))
short (suc most) arrows (a ∷ way) from to fits all lead =
    let stands = first_of (Contains arrows) a way all in
    let behind = behind_first (Contains arrows) a way all in
    elim (cases_Bool (list_any (same_arrow a) way)) [
      | inl twice ↦
          let rest = from_arrow arrows a way a.to to twice behind lead.1 in
          short most arrows (a ∷ rest.way) from to (omega (arith, fits, rest.fits)) rest.are_arrows (lead.0, rest.lead)
      | inr once ↦
          let rest = short most (without a arrows) way a.to to (omega (arith, fits)) (over_others arrows a way once behind) lead.1 in
          let less = fewer a arrows stands in
          record {
            way = a ∷ rest.way;
            are_arrows = All-cons (Contains arrows) a rest.way stands (over_all arrows a rest.way rest.are_arrows);
            lead = (lead.0, rest.lead);
            fits = omega (arith, rest.fits, less);
          }
    ]
