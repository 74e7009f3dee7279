-- One item of a pattern against what is left of a word.
use Rattle.std.specs.Prelude.{◌≡◌, ◌⊎◌, ℕ, ◌≤◌, ◌+◌, Bool, true, false, List, [], ◌∷◌, ◌++◌, Option, None, MatchOption}
use Rattle.std.specs.Str.{chars}
use Rattle.general_facts.specs.Ascii.{star}
use Rattle.mk_glob.specs.declared.pattern_signs.PatternSign.{PatternSign}
use Rattle.mk_glob.specs.declared.matcher.Rest.{Rest}
use Rattle.mk_glob.specs.declared.matcher.Step.{Step}
use Rattle.mk_glob.specs.declared.matcher.Step.TheVariants.{Over, Run, One, Refused}
use Rattle.mk_glob.specs.Signs.{signs_of, is_bare}
use Rattle.mk_glob.specs.FirstSigns.{width}
use Rattle.mk_glob.specs.Items.{Range, one_of, bracket, first_at, admits}
use Rattle.mk_glob.specs.Matcher.{fits}

-- how many bytes signs take
abbrev pub widths : List PatternSign → ℕ
widths [] = 0
widths (sign ∷ rest) = width sign + widths rest

-- if this many bytes of the pattern, or fewer, are left after a `[`, the bracket that it opens isn't closed
abbrev pub UnclosedWithin : List PatternSign → ℕ → Type 0
UnclosedWithin pattern unclosed =
    (front rest : List PatternSign) → pattern ≡ front ++ rest → widths rest ≤ unclosed → bracket rest ≡ None

-- what is known of unclosed brackets stays; or a bracket is found that isn't closed, and then it is known
-- from there
abbrev pub Learns : List PatternSign → ℕ → ℕ → Type 0
Learns pattern old new =
    (new ≡ old)
    ⊎ ((front rest : List PatternSign) × (pattern ≡ front ++ rest) × (new ≡ widths rest) × (bracket rest ≡ None))

-- the same, if only the bracket that opens before these signs may be found not to be closed
abbrev pub Finds : List PatternSign → ℕ → ℕ → Type 0
Finds rest old new = (new ≡ old) ⊎ ((new ≡ widths rest) × (bracket rest ≡ None))

-- the first item is an item of one character, and allows this character or not
pub record TellsOne (sign : PatternSign) (rest : List PatternSign) (c : ℕ) (allowed : Bool) (behind : List PatternSign) : Type 0 where
  pub negated : Bool
  pub ranges : List Range
  pub stands : first_at sign rest ≡ record { item = one_of negated ranges; behind = behind }
  pub tells : allowed ≡ admits negated ranges c

-- the rest after a run that the pattern begins with
pub record IsAfterRun (rest behind : Rest) : Type 0 where
  pub sign : PatternSign
  pub is_run : is_bare star sign ≡ true
  pub pattern : signs_of rest.pattern.now ≡ sign ∷ signs_of behind.pattern.now
  pub word : behind.word.now ≡ rest.word.now

-- the rest after an item of one character and a character that it allows
pub record IsAfterOne (rest behind : Rest) : Type 0 where
  pub sign : PatternSign
  pub more : List PatternSign
  pub c : ℕ
  pub pattern : signs_of rest.pattern.now ≡ sign ∷ more
  pub word : chars rest.word.now ≡ c ∷ chars behind.word.now
  pub tells : TellsOne sign more c true (signs_of behind.pattern.now)

-- what the first item does with the word: nothing is left of either, it is a run, it takes a character, or
-- the word doesn't fit
abbrev pub IsStep : Rest → Step → Type 0
IsStep rest Over = (signs_of rest.pattern.now ≡ []) × (chars rest.word.now ≡ [])
IsStep rest (Run behind) = IsAfterRun rest behind
IsStep rest (One behind) = IsAfterOne rest behind
IsStep rest Refused = fits rest.pattern.now rest.word.now ≡ false

-- the same pattern, one character further in the word
pub record IsOneFurther (rest behind : Rest) : Type 0 where
  pub c : ℕ
  pub pattern : behind.pattern.now ≡ rest.pattern.now
  pub word : chars rest.word.now ≡ c ∷ chars behind.word.now

abbrev pub GoesFurther : Rest → Option Rest → Type 0
GoesFurther rest read = MatchOption read (chars rest.word.now ≡ []) (IsOneFurther rest)
