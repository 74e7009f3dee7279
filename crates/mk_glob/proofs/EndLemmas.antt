-- Ends of a pattern: what follows its items, and where no bracket is closed.
use Rattle.std.proofs.Common.{◌≡◌, ℕ, zero, suc, ◌≤◌, Bool, true, false, eqb, List, [], ◌∷◌, ◌++◌, length, refl, ap, sym, ◌∙◌, subst, arith}
use Rattle.std.proofs.Common.{inl, inr, length-append, append_assoc, Option, Some, None}
use Rattle.std.proofs.lemmas.Bool.{cond-true, cond-false, cond_both, cases_Bool}
use Rattle.std.specs.Option.{option_map, unwrap_or}
use Rattle.std.proofs.lemmas.Option.{same_Some}
use Rattle.mk_glob.specs.declared.pattern_signs.PatternSign.{PatternSign}
use Rattle.mk_glob.specs.declared.pattern_signs.PatternSign.TheVariants.{Bare, Plain}
use Rattle.mk_glob.specs.Signs.{is_bare}
use Rattle.mk_glob.specs.Items.{Bracketed, onto_inside, up_to_close, bracketed, First, closed, bracket, first_at, exactly, first_items}
use Rattle.mk_glob.specs.Items.{items}
use Rattle.mk_glob.specs.Steps.{widths, UnclosedWithin, Learns}
use Rattle.mk_glob.proofs.SignLemmas.{widths-append, width_positive}

-- what a map makes of an option
pub map_some : {A B : Type 0} (f : A → B) (o : Option A) (b : B) → option_map f o ≡ Some b → (a : A) × (o ≡ Some a) × (b ≡ f a)
map_some f None b e = absurd cc
map_some f (Some a) b e = (a, refl, cc)

pub map_none : {A B : Type 0} (f : A → B) (o : Option A) → option_map f o ≡ None → o ≡ None
map_none f None e = refl
map_none f (Some a) e = absurd cc

-- one list of signs ends in another
pub record EndsIn (whole part : List PatternSign) : Type 0 where
  pub front : List PatternSign
  pub joins : whole ≡ front ++ part

pub ends_in_itself : (whole : List PatternSign) → EndsIn whole whole
ends_in_itself whole = record { front = []; joins = refl }

pub ends_after : (sign : PatternSign) (whole part : List PatternSign) → EndsIn whole part → EndsIn (sign ∷ whole) part
ends_after sign whole part ends = record { front = sign ∷ ends.front; joins = ap (λ t. sign ∷ t) ends.joins }

pub ends_along : (whole middle part : List PatternSign) → EndsIn whole middle → EndsIn middle part → EndsIn whole part
ends_along whole middle part first second = record {
  front = first.front ++ second.front;
  joins = first.joins ∙ ap (λ t. first.front ++ t) second.joins ∙ sym (append_assoc first.front second.front part);
}

pub ends_shorter : (whole part : List PatternSign) → EndsIn whole part → length part ≤ length whole
ends_shorter whole part ends = let n = ap length ends.joins in omega (arith, n, length-append ends.front part)

up_to_close-ends : (signs : List PatternSign) (b : Bracketed) → up_to_close signs ≡ Some b → EndsIn signs b.behind
up_to_close-ends [] b e = absurd cc
up_to_close-ends (sign ∷ rest) b e = elim (cases_Bool (is_bare 93 sign)) [
  | inl closes ↦
      let same : Some record { inside = []; behind = rest } ≡ Some b = sym (cond-true (is_bare 93 sign) _ _ closes) ∙ e in
      let at : rest ≡ b.behind = ap Bracketed.behind (same_Some _ b same) in
      subst (EndsIn (sign ∷ rest)) at (ends_after sign rest rest (ends_in_itself rest))
  | inr more ↦
      let inner = map_some (onto_inside sign) (up_to_close rest) b (sym (cond-false (is_bare 93 sign) _ _ more) ∙ e) in
      let at : inner.0.behind ≡ b.behind = sym (ap Bracketed.behind inner.2) in
      subst (EndsIn (sign ∷ rest)) at (ends_after sign rest inner.0.behind (up_to_close-ends rest inner.0 inner.1))
]

bracketed-ends : (signs : List PatternSign) (b : Bracketed) → bracketed signs ≡ Some b → EndsIn signs b.behind
bracketed-ends [] b e = absurd cc
bracketed-ends (first ∷ rest) b e =
    let inner = map_some (onto_inside first) (up_to_close rest) b e in
    let at : inner.0.behind ≡ b.behind = sym (ap Bracketed.behind inner.2) in
    subst (EndsIn (first ∷ rest)) at (ends_after first rest inner.0.behind (up_to_close-ends rest inner.0 inner.1))

closed-ends : (negated : Bool) (signs : List PatternSign) (f : First) → option_map (closed negated) (bracketed signs) ≡ Some
    f → EndsIn signs f.behind
closed-ends negated signs f e =
    let inner = map_some (closed negated) (bracketed signs) f e in
    let at : inner.0.behind ≡ f.behind = sym (ap First.behind inner.2) in
    subst (EndsIn signs) at (bracketed-ends signs inner.0 inner.1)

pub bracket-ends : (signs : List PatternSign) (f : First) → bracket signs ≡ Some f → EndsIn signs f.behind
bracket-ends [] f e = absurd cc
bracket-ends (sign ∷ rest) f e = elim (cases_Bool (is_bare 33 sign)) [
  | inl negates ↦ ends_after sign rest f.behind (closed-ends true rest f (sym (cond-true (is_bare 33 sign) _ _ negates) ∙ e))
  | inr plain ↦ closed-ends false (sign ∷ rest) f (sym (cond-false (is_bare 33 sign) _ _ plain) ∙ e)
]

bracket_or-ends : (rest : List PatternSign) (c : ℕ) (o : Option First) → bracket rest ≡ o
    → EndsIn rest (unwrap_or o record { item = exactly c; behind = rest }).behind
bracket_or-ends rest c None e = ends_in_itself rest
bracket_or-ends rest c (Some f) e = bracket-ends rest f e

pub first_at-ends : (sign : PatternSign) (rest : List PatternSign) → EndsIn rest (first_at sign rest).behind
first_at-ends (Plain c) rest = ends_in_itself rest
first_at-ends (Bare c) rest =
    let P : First → Type 0 = λ f. EndsIn rest f.behind in
    cond_both (eqb c 42) _ _ P (λ _. ends_in_itself rest)
    (λ _. cond_both (eqb c 63) _ _ P (λ _. ends_in_itself rest)
    (λ _. cond_both (eqb c 91) _ _ P (λ _. bracket_or-ends rest c (bracket rest) refl) (λ _. ends_in_itself rest)))

-- so many items as there are signs, or more, are all
first_items-enough : (n m : ℕ) (signs : List PatternSign) → length signs ≤ n → length signs ≤ m → first_items n signs ≡ first_items m signs
first_items-enough zero zero [] a b = refl
first_items-enough zero (suc m) [] a b = refl
first_items-enough (suc n) zero [] a b = refl
first_items-enough (suc n) (suc m) [] a b = refl
first_items-enough zero m (sign ∷ rest) a b = absurd (omega arith)
first_items-enough (suc n) zero (sign ∷ rest) a b = absurd (omega arith)
first_items-enough (suc n) (suc m) (sign ∷ rest) a b =
    let shorter = ends_shorter rest (first_at sign rest).behind (first_at-ends sign rest) in
    ap (λ l. (first_at sign rest).item ∷ l) (first_items-enough n m (first_at sign rest).behind (omega arith) (omega arith))

-- the first item, and those of what follows it
pub items-cons : (sign : PatternSign) (rest : List PatternSign) → items (sign ∷ rest) ≡ (first_at sign rest).item ∷ items
    (first_at sign rest).behind
unfolding items
items-cons sign rest =
    let shorter = ends_shorter rest (first_at sign rest).behind (first_at-ends sign rest) in
    ap (λ l. (first_at sign rest).item ∷ l)
    (first_items-enough (length rest) (length (first_at sign rest).behind) (first_at sign rest).behind shorter (omega arith))

some_is_some : {A : Type 0} (a : A) → Some a ≡ None → ⊥
some_is_some a e = cc

-- if one bracket isn't closed, none after it is
up_to_close-none : (sign : PatternSign) (rest : List PatternSign) → up_to_close (sign ∷ rest) ≡ None → up_to_close rest ≡ None
up_to_close-none sign rest e = elim (cases_Bool (is_bare 93 sign)) [
  | inl closes ↦ absurd (some_is_some _ (sym (cond-true (is_bare 93 sign) _ _ closes) ∙ e))
  | inr more ↦ map_none (onto_inside sign) (up_to_close rest) (sym (cond-false (is_bare 93 sign) _ _ more) ∙ e)
]

bracketed-from_none : (signs : List PatternSign) → up_to_close signs ≡ None → bracketed signs ≡ None
bracketed-from_none [] e = refl
bracketed-from_none (sign ∷ rest) e = ap (option_map (onto_inside sign)) (up_to_close-none sign rest e)

bracketed-none : (sign : PatternSign) (rest : List PatternSign) → bracketed (sign ∷ rest) ≡ None → bracketed rest ≡ None
bracketed-none sign rest e = bracketed-from_none rest (map_none (onto_inside sign) (up_to_close rest) e)

bracket-from_none : (signs : List PatternSign) → bracketed signs ≡ None → bracket signs ≡ None
bracket-from_none [] e = refl
bracket-from_none (sign ∷ rest) e = elim (cases_Bool (is_bare 33 sign)) [
  | inl negates ↦ cond-true (is_bare 33 sign) _ _ negates ∙ ap (option_map (closed true)) (bracketed-none sign rest e)
  | inr plain ↦ cond-false (is_bare 33 sign) _ _ plain ∙ ap (option_map (closed false)) e
]

bracket-none : (sign : PatternSign) (rest : List PatternSign) → bracket (sign ∷ rest) ≡ None → bracket rest ≡ None
bracket-none sign rest e = bracket-from_none rest (elim (cases_Bool (is_bare 33 sign)) [
  | inl negates ↦ map_none (closed true) (bracketed rest) (sym (cond-true (is_bare 33 sign) _ _ negates) ∙ e)
  | inr plain ↦
      bracketed-none sign rest (map_none (closed false) (bracketed (sign ∷ rest)) (sym (cond-false (is_bare 33 sign) _ _ plain) ∙ e))
])

bracket-none_after : (front rest : List PatternSign) → bracket (front ++ rest) ≡ None → bracket rest ≡ None
bracket-none_after [] rest e = e
bracket-none_after (sign ∷ front) rest e = bracket-none_after front rest (bracket-none sign (front ++ rest) e)

tails_same : (x y : PatternSign) (a b : List PatternSign) → x ∷ a ≡ y ∷ b → a ≡ b
tails_same x y a b e = cc

-- of two ends of one list the one with fewer bytes is an end of the other
later_end : (g b f t : List PatternSign) → g ++ b ≡ f ++ t → widths t ≤ widths b → EndsIn b t
later_end [] b f t e h = record { front = f; joins = e }
later_end (x ∷ g) b [] t e h =
    let n : widths (x ∷ g ++ b) ≡ widths t = ap widths e in
    absurd (omega (arith, n, widths-append g b, width_positive x))
later_end (x ∷ g) b (y ∷ f) t e h = later_end g b f t (tails_same x y (g ++ b) (f ++ t) e) h

pub UnclosedWithin-found : (pattern rest : List PatternSign) → EndsIn pattern rest → bracket rest ≡ None
    → UnclosedWithin pattern (widths rest)
UnclosedWithin-found pattern rest ends none = λ front part e h.
    let later = later_end ends.front rest front part (sym ends.joins ∙ e) h in
    bracket-none_after later.front part (ap bracket (sym later.joins) ∙ none)

pub UnclosedWithin-after : (pattern rest : List PatternSign) (n : ℕ) → EndsIn pattern rest
    → UnclosedWithin pattern n → UnclosedWithin rest n
UnclosedWithin-after pattern rest n ends known = λ front part e h.
    known (ends.front ++ front) part (ends.joins ∙ ap (λ t. ends.front ++ t) e ∙ sym (append_assoc ends.front front part)) h

-- what is learnt at an end holds for the whole
pub UnclosedWithin-learnt : (pattern rest : List PatternSign) (old new : ℕ) → EndsIn pattern rest → Learns rest old new
    → UnclosedWithin pattern old
    → UnclosedWithin pattern new
UnclosedWithin-learnt pattern rest old new ends (inl same) known = subst (UnclosedWithin pattern) (sym same) known
UnclosedWithin-learnt pattern rest old new ends (inr found) known =
    let inner : EndsIn rest found.1 = record { front = found.0; joins = found.2 } in
    subst (UnclosedWithin pattern) (sym found.3) (UnclosedWithin-found pattern found.1 (ends_along pattern rest found.1 ends inner) found.4)
