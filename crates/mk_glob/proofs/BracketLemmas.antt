-- Members read from the left, and those up to where they are closed.
use Rattle.std.proofs.Common.{◌≡◌, ℕ, ◌≤◌, length, Bool, true, false, ◌||◌, List, [], ◌∷◌, refl, ap, sym, ◌∙◌, subst, arith, inl, inr}
use Rattle.std.proofs.Common.{Option, Some, None}
use Rattle.std.proofs.Math.Bool.{or-false}
use Rattle.std.proofs.lemmas.Bool.{cond-true, cond-false, cases_Bool, both_ways, eqb-true, ne_eqb}
use Rattle.std.specs.Option.{option_map}
use Rattle.std.proofs.lemmas.Option.{same_Some}
use Rattle.mk_glob.specs.declared.pattern_signs.PatternSign.{PatternSign}
use Rattle.mk_glob.specs.declared.pattern_signs.PatternSign.TheVariants.{Bare, Plain}
use Rattle.mk_glob.specs.Signs.{character, is_bare, signs_of}
use Rattle.mk_glob.specs.FirstSigns.{BeginsWithSign}
use Rattle.mk_glob.proofs.SignLemmas.{signs_of-empty}
use Rattle.mk_glob.specs.Items.{Range, range_of_one, members, Bracketed, onto_inside, up_to_close, bracketed, bracket, is_within}
use Rattle.mk_glob.specs.Items.{is_in_some_range}
use Rattle.mk_glob.specs.Brackets.{MakesNoRange, MakesRange, EndsRange, HasBracketMembers, TestsBracket}
use Rattle.mk_glob.proofs.EndLemmas.{map_some, map_none}

-- whether a character was found or is among members, and what follows them
abbrev pub told : ℕ → Bool → Bracketed → Bool × List PatternSign
told c found b = (found || is_in_some_range (members b.inside) c, b.behind)

-- the same where nothing was read of them
abbrev pub told_all : ℕ → Bracketed → Bool × List PatternSign
told_all c b = (is_in_some_range (members b.inside) c, b.behind)

-- the same where the first sign was read
abbrev pub told_low : ℕ → Bool → PatternSign → Bracketed → Bool × List PatternSign
told_low c found low b = told c found (onto_inside low b)

-- what is told of members that are read as far as a sign that begins one
abbrev pub after_low : ℕ → Bool → PatternSign → List PatternSign → Option (Bool × List PatternSign)
after_low c found low rest = option_map (told_low c found low) (up_to_close rest)

-- what is told of members that are read as far as the end of one
abbrev pub after_end : ℕ → Bool → List PatternSign → Option (Bool × List PatternSign)
after_end c found rest = option_map (told c found) (up_to_close rest)

-- what is told of all members
abbrev pub of_body : ℕ → List PatternSign → Option (Bool × List PatternSign)
of_body c body = option_map (told_all c) (bracketed body)

abbrev with_answer : Bracketed → Bool → Bool × List PatternSign
with_answer b x = (x, b.behind)

abbrev with_ranges : ℕ → Bool → Bracketed → List Range → Bool × List PatternSign
with_ranges c found b l = (found || is_in_some_range l c, b.behind)

begun : (c : ℕ) (low : PatternSign) (o : Option Bracketed)
    → option_map (told_all c) (option_map (onto_inside low) o)
    ≡ option_map (told_low c false low) o
begun c low None = refl
begun c low (Some b) = refl

pub of_body-begins : (c : ℕ) (low : PatternSign) (rest : List PatternSign) → of_body c (low ∷ rest) ≡ after_low c false low rest
of_body-begins c low rest = begun c low (up_to_close rest)

none_is_none : {A : Type 0} (b : A) → None ≡ Some b → ⊥
none_is_none b e = cc

-- the same where the sign before and one more are read
second_alone : (low s t : PatternSign) (rest : List PatternSign) (b : Bracketed) → MakesNoRange (s ∷ t ∷ rest)
    → up_to_close (t ∷ rest) ≡ Some b
    → members (low ∷ s ∷ b.inside) ≡ range_of_one (character low) ∷ members (s ∷ b.inside)
second_alone low s t rest b free e =
    let P : Bracketed → Type 0 = λ x. members (low ∷ s ∷ x.inside) ≡ range_of_one (character low) ∷ members (s ∷ x.inside) in
    elim (cases_Bool (is_bare 93 t)) [
      | inl closes ↦ subst P (same_Some _ b (sym (cond-true (is_bare 93 t) _ _ closes) ∙ e)) refl
      | inr more ↦
          let inner = map_some (onto_inside t) (up_to_close rest) b (sym (cond-false (is_bare 93 t) _ _ more) ∙ e) in
          subst P (sym inner.2) (elim (cases_Bool (is_bare 45 s)) [
            | inl dash ↦ absurd (both_ways (is_bare 93 t) more (free dash))
            | inr other ↦ cond-false (is_bare 45 s) _ _ other
          ])
    ]

-- where no range is made the sign before is a member alone
alone_member : (low : PatternSign) (rest : List PatternSign) (b : Bracketed) → MakesNoRange rest → up_to_close rest ≡ Some b
    → members (low ∷ b.inside) ≡ range_of_one (character low) ∷ members b.inside
alone_member low [] b free e = absurd (none_is_none b e)
alone_member low (s ∷ []) b free e = elim (cases_Bool (is_bare 93 s)) [
  | inl closes ↦
      let P : Bracketed → Type 0 = λ x. members (low ∷ x.inside) ≡ range_of_one (character low) ∷ members x.inside in
      subst P (same_Some _ b (sym (cond-true (is_bare 93 s) _ _ closes) ∙ e)) refl
  | inr more ↦ absurd (none_is_none b (sym (cond-false (is_bare 93 s) _ _ more) ∙ e))
]
alone_member low (s ∷ t ∷ rest) b free e =
    let P : Bracketed → Type 0 = λ x. members (low ∷ x.inside) ≡ range_of_one (character low) ∷ members x.inside in
    elim (cases_Bool (is_bare 93 s)) [
      | inl closes ↦ subst P (same_Some _ b (sym (cond-true (is_bare 93 s) _ _ closes) ∙ e)) refl
      | inr more ↦
          let inner = map_some (onto_inside s) (up_to_close (t ∷ rest)) b (sym (cond-false (is_bare 93 s) _ _ more) ∙ e) in
          subst P (sym inner.2) (second_alone low s t rest inner.0 free inner.1)
    ]

-- a map by two functions that agree on what is there
map_same : {A B : Type 0} (f g : A → B) (o : Option A) → ((a : A) → o ≡ Some a → f a ≡ g a) → option_map f o ≡ option_map g o
map_same f g None same = refl
map_same f g (Some a) same = ap Some (same a refl)

or_joined : (a b x : Bool) → (a || (b || x)) ≡ ((a || b) || x)
or_joined true b x = refl
or_joined false b x = refl

dash_stays_inside : (dash : PatternSign) → is_bare 45 dash ≡ true → is_bare 93 dash ≡ false
dash_stays_inside (Bare d) e = ne_eqb d 93 (λ other. omega (arith, eqb-true d 45 e))
dash_stays_inside (Plain d) e = refl

ranged : (c : ℕ) (found : Bool) (low dash high : PatternSign) (o : Option Bracketed) → is_bare 45 dash ≡ true
    → option_map (told_low c found low) (option_map (onto_inside dash) (option_map (onto_inside high) o))
    ≡ option_map (told c (found || is_within (character low) (character high) c)) o
ranged c found low dash high None e = refl
ranged c found low dash high (Some b) e =
    let ranges = cond-true (is_bare 45 dash) (record { low = character low; high = character high } ∷ members b.inside)
    (range_of_one (character low) ∷ members (dash ∷ high ∷ b.inside)) e in
    ap Some (ap (λ l. with_ranges c found b l) ranges
    ∙ ap (λ x. with_answer b x) (or_joined found (is_within (character low) (character high) c) (is_in_some_range (members b.inside) c)))

-- a member is read: a range up to its end, or a sign alone
pub after_low-range : (c : ℕ) (found : Bool) (low : PatternSign) (rest : List PatternSign) (end : ℕ) (behind : List PatternSign)
    → MakesRange rest end behind
    → after_low c found low rest ≡ after_end c (found || is_within (character low) end c) behind
after_low-range c found low rest end behind made =
    let high = made.high in
    let first : up_to_close (made.dash ∷ high ∷ behind) ≡ option_map (onto_inside made.dash) (up_to_close (high ∷ behind)) =
    cond-false (is_bare 93 made.dash) _ _ (dash_stays_inside made.dash made.is_dash) in
    let second : up_to_close (high ∷ behind) ≡ option_map (onto_inside high) (up_to_close behind) =
    cond-false (is_bare 93 high) _ _ made.is_inside in
    let closes : up_to_close rest ≡ option_map (onto_inside made.dash) (option_map (onto_inside high) (up_to_close behind)) =
    ap up_to_close made.reads ∙ first ∙ ap (option_map (onto_inside made.dash)) second in
    ap (option_map (told_low c found low)) closes
    ∙ ranged c found low made.dash high (up_to_close behind) made.is_dash
    ∙ ap (λ n. after_end c (found || is_within (character low) n c) behind) (sym made.is_end)

pub after_low-alone : (c : ℕ) (found : Bool) (low : PatternSign) (rest : List PatternSign) → MakesNoRange rest
    → after_low c found low rest ≡ after_end c (found || is_within (character low) (character low) c) rest
after_low-alone c found low rest free =
    map_same (told_low c found low)
    (told c (found || is_within (character low) (character low) c))
    (up_to_close rest)
    (λ b e.
    ap (λ l. with_ranges c found b l) (alone_member low rest b free e)
    ∙ ap (λ x. with_answer b x) (or_joined found (is_within (character low) (character low) c) (is_in_some_range (members b.inside) c)))

-- what follows a member closes, or begins the next
pub after_end-closes : (c : ℕ) (found : Bool) (sign : PatternSign) (rest : List PatternSign) → is_bare 93 sign ≡ true
    → after_end c found (sign ∷ rest) ≡ Some (found, rest)
after_end-closes c found sign rest e =
    ap (option_map (told c found)) (cond-true (is_bare 93 sign) _ _ e)
    ∙ ap (λ x. Some (with_answer record { inside = []; behind = rest } x)) (or-false found)

next_one : (c : ℕ) (found : Bool) (sign : PatternSign) (o : Option Bracketed)
    → option_map (told c found) (option_map (onto_inside sign) o)
    ≡ option_map (told_low c found sign) o
next_one c found sign None = refl
next_one c found sign (Some b) = refl

pub after_end-next : (c : ℕ) (found : Bool) (sign : PatternSign) (rest : List PatternSign) → is_bare 93 sign ≡ false
    → after_end c found (sign ∷ rest) ≡ after_low c found sign rest
after_end-next c found sign rest e =
    ap (option_map (told c found)) (cond-false (is_bare 93 sign) _ _ e)
    ∙ next_one c found sign (up_to_close rest)

pub bracketed-from_told : (c : ℕ) (body : List PatternSign) → of_body c body ≡ None → bracketed body ≡ None
bracketed-from_told c body e = map_none (told_all c) (bracketed body) e

abbrev found_of : Bool × List PatternSign → Bool
found_of p = p.0

abbrev after_of : Bool × List PatternSign → List PatternSign
after_of p = p.1

pub HasBracketMembers-from_told : (c : ℕ) (body : List PatternSign) (found : Bool) (behind : List PatternSign)
    → of_body c body ≡ Some (found, behind)
    → HasBracketMembers body c found behind
HasBracketMembers-from_told c body found behind e =
    let at = map_some (told_all c) (bracketed body) (found, behind) e in record {
      inside = at.0.inside;
      stands = at.1 ∙ ap (λ x. Some record { inside = at.0.inside; behind = x }) (sym (ap after_of at.2));
      tells = ap found_of at.2;
    }

-- nothing after a sign, or after a `-`, makes no range
pub MakesNoRange-empty : (rest : List ℕ) → rest ≡ [] → MakesNoRange (signs_of rest)
MakesNoRange-empty rest e = subst MakesNoRange (sym (signs_of-empty rest e)) tt

pub MakesNoRange-last : (rest : List ℕ) (dash : PatternSign) (behind : List ℕ) → BeginsWithSign rest dash behind → behind ≡ []
    → MakesNoRange (signs_of rest)
MakesNoRange-last rest dash behind begins e =
    subst MakesNoRange (sym (begins.reads ∙ ap (λ t. dash ∷ t) (signs_of-empty behind e))) tt

-- the same by a character
pub after_low-end : (c : ℕ) (found : Bool) (low : PatternSign) (rest : List ℕ) (end : ℕ) (behind : List ℕ)
    → EndsRange (character low) rest end behind
    → after_low c found low (signs_of rest) ≡ after_end c (found || is_within (character low) end c) (signs_of behind)
after_low-end c found low rest end behind (inl free) =
    after_low-alone c found low (signs_of rest) free.0
    ∙ ap (λ n. after_end c (found || is_within (character low) n c) (signs_of rest)) (sym free.1)
    ∙ ap (λ t. after_end c (found || is_within (character low) end c) (signs_of t)) (sym free.2)
after_low-end c found low rest end behind (inr made) = after_low-range c found low (signs_of rest) end (signs_of behind) made

pub after_end-empty : (c : ℕ) (found : Bool) (rest : List ℕ) → rest ≡ [] → after_end c found (signs_of rest) ≡ None
after_end-empty c found rest e = ap (after_end c found) (signs_of-empty rest e)

-- one more member is read
pub member_read : (c : ℕ) (body : List PatternSign) (found : Bool) (low : PatternSign) (rest : List ℕ) (first end : ℕ) (behind : List ℕ)
    (again : ℕ) (within : Bool)
    → of_body c body ≡ after_low c found low (signs_of rest) → first ≡ character low → EndsRange first rest end behind
    → again ≡ character low → within ≡ is_within again end c
    → of_body c body ≡ after_end c (found || within) (signs_of behind)
member_read c body found low rest first end behind again within so_far is_first ends is_again tells =
    let P : ℕ → Type 0 = λ n. EndsRange n rest end behind in
    let same : within ≡ is_within (character low) end c = tells ∙ ap (λ n. is_within n end c) is_again in
    so_far ∙ after_low-end c found low rest end behind (subst P is_first ends)
    ∙ ap (λ w. after_end c (found || w) (signs_of behind)) (sym same)

pub EndsRange-shorter : (low : ℕ) (rest : List ℕ) (end : ℕ) (behind : List ℕ) → EndsRange low rest end behind
    → length (signs_of behind) ≤ length (signs_of rest)
EndsRange-shorter low rest end behind (inl free) = let n = ap (λ t. length (signs_of t)) free.2 in omega arith
EndsRange-shorter low rest end behind (inr made) = let n = ap length made.reads in omega arith

pub TestsBracket-empty : (body : List ℕ) (c : ℕ) → body ≡ [] → TestsBracket body c None
TestsBracket-empty body c e = ap bracket (signs_of-empty body e)
