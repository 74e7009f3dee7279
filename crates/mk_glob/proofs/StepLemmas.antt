-- The first item of a pattern, and what it does with a character.
use Rattle.std.proofs.Common.{◌≡◌, ℕ, ◌≤◌, Bool, true, false, ◌&&◌, ◌||◌, eqb, leb, List, [], ◌∷◌, length, refl, ap, sym, ◌∙◌, arith, inl}
use Rattle.std.proofs.Common.{inr, Option, Some, None}
use Rattle.std.proofs.lemmas.Bool.{cond-true, cond-false, cond_both, cases_Bool, eqb-true, both_ways, and_left, true≢false}
use Rattle.std.proofs.lemmas.Bool.Decides.{nat_tests}
use Rattle.std.proofs.Math.Bool.{or-false}
use Rattle.std.specs.Option.{option_map, unwrap_or}
use Rattle.std.specs.Str.{IsUtf8, chars}
use Rattle.mk_glob.specs.declared.pattern_signs.PatternSign.{PatternSign}
use Rattle.mk_glob.specs.declared.pattern_signs.PatternSign.TheVariants.{Bare, Plain}
use Rattle.mk_glob.specs.Signs.{character, is_bare, signs_of}
use Rattle.mk_glob.specs.Items.{Range, range_of_one, Item, one_of, exactly, First, members, Bracketed, bracketed, closed, bracket, first_at}
use Rattle.mk_glob.specs.Items.{items, items_of, is_within, admits}
use Rattle.mk_glob.specs.Matcher.{fits_items, fits}
use Rattle.mk_glob.specs.Steps.{widths, Finds, Learns, UnclosedWithin, TellsOne}
use Rattle.mk_glob.proofs.SignLemmas.{widths-signs_of, signs_of-empty}
use Rattle.mk_glob.proofs.EndLemmas.{items-cons, map_some}

pub bare_sign : (n : ℕ) (sign : PatternSign) → is_bare n sign ≡ true → sign ≡ Bare n
bare_sign n (Bare c) e = ap Bare (eqb-true c n e)
bare_sign n (Plain c) e = absurd (true≢false (sym e))

-- a sign that is neither `*` nor `?` and opens no bracket is itself
first_at-exactly : (sign : PatternSign) (rest : List PatternSign) → is_bare 42 sign ≡ false → is_bare 63 sign ≡ false
    → (is_bare 91 sign ≡ true → bracket rest ≡ None)
    → first_at sign rest ≡ record { item = exactly (character sign); behind = rest }
first_at-exactly (Plain c) rest run one opens = refl
first_at-exactly (Bare c) rest run one opens =
    cond-false (eqb c 42) _ _ run ∙ cond-false (eqb c 63) _ _ one ∙ elim (cases_Bool (eqb c 91)) [
      | inl e ↦ cond-true (eqb c 91) _ _ e ∙ ap (λ o. unwrap_or o record { item = exactly c; behind = rest }) (opens e)
      | inr e ↦ cond-false (eqb c 91) _ _ e
    ]

same_is_within : (a b : ℕ) → eqb a b ≡ (leb a b && leb b a)
same_is_within a b = grind (arith, nat_tests)

pub TellsOne-exactly : (sign : PatternSign) (rest : List PatternSign) (c own : ℕ) → is_bare 42 sign ≡ false → is_bare 63 sign ≡ false
    → (is_bare 91 sign ≡ true → bracket rest ≡ None) → own ≡ character sign → TellsOne sign rest c (eqb own c) rest
TellsOne-exactly sign rest c own run one opens e = record {
  negated = false;
  ranges = range_of_one (character sign) ∷ [];
  stands = first_at-exactly sign rest run one opens;
  tells = ap (λ n. eqb n c) e ∙ same_is_within (character sign) c ∙ sym (or-false (is_within (character sign) (character sign) c));
}

-- where no more bytes are left than are known to hold no closed bracket
pub bracket-known : (behind : List ℕ) (unclosed : ℕ) → IsUtf8 behind
    → (widths (signs_of behind) ≤ unclosed → bracket (signs_of behind) ≡ None)
    → length behind ≤ unclosed → bracket (signs_of behind) ≡ None
bracket-known behind unclosed utf8 known h = let n = widths-signs_of behind utf8 in known (omega arith)

pub Finds-none : (behind : List ℕ) (old new : ℕ) → IsUtf8 behind → bracket (signs_of behind) ≡ None → new ≡ length behind
    → Finds (signs_of behind) old new
Finds-none behind old new utf8 none e = inr (e ∙ sym (widths-signs_of behind utf8), none)

-- the test of a word by the pattern's first item
pub fits-first : (pattern word : List ℕ) (sign : PatternSign) (more : List PatternSign) (first : First) → signs_of pattern ≡ sign ∷ more
    → first_at sign more ≡ first → fits pattern word ≡ fits_items (first.item ∷ items first.behind) (chars word)
unfolding fits items_of
fits-first pattern word sign more first reads stands =
    let same : items (signs_of pattern) ≡ first.item ∷ items first.behind =
    ap items reads ∙ items-cons sign more ∙ ap (λ f. First.item f ∷ items (First.behind f)) stands in
    ap (λ l. fits_items l (chars word)) same

-- the same where the pattern has none
pub fits-nothing : (pattern word : List ℕ) → signs_of pattern ≡ [] → fits pattern word ≡ fits_items [] (chars word)
unfolding fits items_of items
fits-nothing pattern word e = ap (λ t. fits_items (items t) (chars word)) e

pub fits-pattern_over : (pattern word : List ℕ) (c : ℕ) (rest : List ℕ) → pattern ≡ [] → chars word ≡ c ∷ rest → fits pattern word ≡ false
fits-pattern_over pattern word c rest e reads =
    fits-nothing pattern word (signs_of-empty pattern e) ∙ ap (fits_items []) reads

-- an item that isn't a run is one of one character
pub record IsOne (item : Item) : Type 0 where
  pub negated : Bool
  pub ranges : List Range
  pub is : item ≡ one_of negated ranges

closed_is_one : (negated : Bool) (o : Option Bracketed) (f : First) → option_map (closed negated) o ≡ Some f → IsOne f.item
closed_is_one negated o f e =
    let at = map_some (closed negated) o f e in
    record { negated = negated; ranges = members at.0.inside; is = ap First.item at.2 }

bracket_is_one : (rest : List PatternSign) (f : First) → bracket rest ≡ Some f → IsOne f.item
bracket_is_one [] f e = absurd cc
bracket_is_one (sign ∷ rest) f e = elim (cases_Bool (is_bare 33 sign)) [
  | inl negates ↦ closed_is_one true (bracketed rest) f (sym (cond-true (is_bare 33 sign) _ _ negates) ∙ e)
  | inr plain ↦ closed_is_one false (bracketed (sign ∷ rest)) f (sym (cond-false (is_bare 33 sign) _ _ plain) ∙ e)
]

exactly_is_one : (c : ℕ) → IsOne (exactly c)
exactly_is_one c = record { negated = false; ranges = range_of_one c ∷ []; is = refl }

bracket_or_is_one : (rest : List PatternSign) (c : ℕ) (o : Option First) → bracket rest ≡ o
    → IsOne (unwrap_or o record { item = exactly c; behind = rest }).item
bracket_or_is_one rest c None e = exactly_is_one c
bracket_or_is_one rest c (Some f) e = bracket_is_one rest f e

first_at_is_one : (sign : PatternSign) (rest : List PatternSign) → is_bare 42 sign ≡ false → IsOne (first_at sign rest).item
first_at_is_one (Plain c) rest e = exactly_is_one c
first_at_is_one (Bare c) rest e =
    let P : First → Type 0 = λ f. IsOne f.item in
    cond_both (eqb c 42) _ _ P (λ is. absurd (both_ways (eqb c 42) e is))
    (λ _. cond_both (eqb c 63) _ _ P (λ _. record { negated = true; ranges = []; is = refl })
    (λ _. cond_both (eqb c 91) _ _ P (λ _. bracket_or_is_one rest c (bracket rest) refl) (λ _. exactly_is_one c)))

pub fits-word_over : (pattern word : List ℕ) (sign : PatternSign) (more : List PatternSign) → signs_of pattern ≡ sign ∷ more
    → is_bare 42 sign ≡ false
    → chars word ≡ [] → fits pattern word ≡ false
fits-word_over pattern word sign more reads run over =
    let one = first_at_is_one sign more run in
    fits-first pattern word sign more (first_at sign more) reads refl
    ∙ ap (fits_items ((first_at sign more).item ∷ items (first_at sign more).behind)) over
    ∙ ap (λ i. fits_items (i ∷ items (first_at sign more).behind) []) one.is

-- a character that the first item refuses
pub fits-refused : (pattern word : List ℕ) (sign : PatternSign) (more : List PatternSign) (c : ℕ) (rest : List ℕ) (allowed : Bool)
    (behind : List PatternSign)
    → signs_of pattern ≡ sign ∷ more → chars word ≡ c ∷ rest → allowed ≡ false → TellsOne sign more c allowed behind
    → fits pattern word ≡ false
fits-refused pattern word sign more c rest allowed behind reads begins refused tells =
    fits-first pattern word sign more record { item = one_of tells.negated tells.ranges; behind = behind } reads tells.stands
    ∙ ap (fits_items (one_of tells.negated tells.ranges ∷ items behind)) begins
    ∙ and_left (admits tells.negated tells.ranges c) (fits_items (items behind) rest) (sym tells.tells ∙ refused)

pub known-after : (pattern : List PatternSign) (sign : PatternSign) (more : List PatternSign) (unclosed : ℕ) → pattern ≡ sign ∷ more
    → UnclosedWithin pattern unclosed → widths more ≤ unclosed → bracket more ≡ None
known-after pattern sign more unclosed reads known h = known (sign ∷ []) more reads h

pub Learns-after : (pattern : List PatternSign) (sign : PatternSign) (more : List PatternSign) (old new : ℕ)
    → pattern ≡ sign ∷ more → Finds more old new
    → Learns pattern old new
Learns-after pattern sign more old new reads (inl same) = inl same
Learns-after pattern sign more old new reads (inr found) = inr (sign ∷ [], more, reads, found.0, found.1)
