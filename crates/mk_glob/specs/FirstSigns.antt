-- Characters and signs read from the left of a text.
use Rattle.std.specs.Prelude.{◌≡◌, ℕ, ◌+◌, List, [], ◌∷◌, length, Option, MatchOption}
use Rattle.std.specs.Borrow.{Bor}
use Rattle.std.specs.Str.{IsUtf8, chars}
use Rattle.std.specs.Char.{len_utf8}
use Rattle.mk_glob.specs.declared.pattern_signs.PatternSign.{PatternSign}
use Rattle.mk_glob.specs.declared.pattern_signs.PatternSign.TheVariants.{Bare, Plain}
use Rattle.mk_glob.specs.Signs.{signs_of}

-- how many bytes a sign takes
abbrev pub width : PatternSign → ℕ
width (Bare c) = len_utf8 c
width (Plain c) = len_utf8 c + 1

-- the text begins with this character, and `behind` follows it
pub record BeginsWithChar (text : List ℕ) (c : ℕ) (behind : List ℕ) : Type 0 where
  pub reads : chars text ≡ c ∷ chars behind
  pub bytes : length text ≡ len_utf8 c + length behind
  pub is_text : IsUtf8 behind

-- the pattern begins with this sign, and `behind` follows it
pub record BeginsWithSign (pattern : List ℕ) (sign : PatternSign) (behind : List ℕ) : Type 0 where
  pub reads : signs_of pattern ≡ sign ∷ signs_of behind
  pub bytes : length pattern ≡ width sign + length behind
  pub is_text : IsUtf8 behind

-- the first character of a text and what follows it, or none if the text is empty
abbrev pub ReadsChar : List ℕ → Option (ℕ × Bor (List ℕ)) → Type 0
ReadsChar text read = MatchOption read (text ≡ []) (λ first. BeginsWithChar text first.0 first.1.now)

-- the first sign of a pattern and what follows it, or none if the pattern is empty
abbrev pub ReadsSign : List ℕ → Option (PatternSign × Bor (List ℕ)) → Type 0
ReadsSign pattern read = MatchOption read (pattern ≡ []) (λ first. BeginsWithSign pattern first.0 first.1.now)
