-- What is read of a bracket, and what it says of a character.
use Rattle.std.specs.Prelude.{◌≡◌, ◌⊎◌, ℕ, Bool, true, false, List, [], ◌∷◌, Option, Some, None, MatchOption}
use Rattle.std.specs.Borrow.{Bor}
use Rattle.general_facts.specs.Ascii.{dash as dash_byte, right_bracket}
use Rattle.mk_glob.specs.declared.pattern_signs.PatternSign.{PatternSign}
use Rattle.mk_glob.specs.Signs.{signs_of, character, is_bare}
use Rattle.mk_glob.specs.Items.{Range, one_of, bracketed, bracket, members, is_in_some_range, admits}

-- signs that make no range of the sign before them: they don't begin with a bare `-`, or nothing
-- follows that, or what follows it closes the bracket
abbrev pub MakesNoRange : List PatternSign → Type 0
MakesNoRange [] = Unit {0}
MakesNoRange (dash ∷ []) = Unit {0}
MakesNoRange (dash ∷ high ∷ rest) = is_bare dash_byte dash ≡ true → is_bare right_bracket high ≡ true

-- signs that make of the sign before them a range up to this character
pub record MakesRange (rest : List PatternSign) (end : ℕ) (behind : List PatternSign) : Type 0 where
  pub dash : PatternSign
  pub high : PatternSign
  pub reads : rest ≡ dash ∷ high ∷ behind
  pub is_dash : is_bare dash_byte dash ≡ true
  pub is_inside : is_bare right_bracket high ≡ false
  pub is_end : end ≡ character high

-- the range that begins with the character `low` before the bytes `rest` ends with `end`, and `behind`
-- follows it
abbrev pub EndsRange : ℕ → List ℕ → ℕ → List ℕ → Type 0
EndsRange low rest end behind =
    (MakesNoRange (signs_of rest) × (end ≡ low) × (behind ≡ rest)) ⊎ MakesRange (signs_of rest) end (signs_of behind)

-- the members up to where they are closed, and whether the character is among them
pub record HasBracketMembers (body : List PatternSign) (c : ℕ) (found : Bool) (behind : List PatternSign) : Type 0 where
  pub inside : List PatternSign
  pub stands : bracketed body ≡ Some record { inside = inside; behind = behind }
  pub tells : found ≡ is_in_some_range (members inside) c

abbrev pub TestsMembers : List ℕ → ℕ → Option (Bool × Bor (List ℕ)) → Type 0
TestsMembers body c read =
    MatchOption read (bracketed (signs_of body) ≡ None) (λ end. HasBracketMembers (signs_of body) c end.0 (signs_of end.1.now))

-- the bracket, and whether it allows the character
pub record HasBracket (body : List PatternSign) (c : ℕ) (allowed : Bool) (behind : List PatternSign) : Type 0 where
  pub negated : Bool
  pub ranges : List Range
  pub stands : bracket body ≡ Some record { item = one_of negated ranges; behind = behind }
  pub tells : allowed ≡ admits negated ranges c

abbrev pub TestsBracket : List ℕ → ℕ → Option (Bool × Bor (List ℕ)) → Type 0
TestsBracket body c read =
    MatchOption read (bracket (signs_of body) ≡ None) (λ end. HasBracket (signs_of body) c end.0 (signs_of end.1.now))
