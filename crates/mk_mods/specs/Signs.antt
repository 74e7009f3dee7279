-- The old and the new text of `:S`, as they are written up to the delimiter after each (make(1),
-- "VARIABLES").
use Rattle.std.specs.Prelude.{◌≡◌, ◌≢◌, ℕ, zero, suc, ◌-◌, Bool, true, false, ◌==◌, ◌||◌, ◌&&◌, List, [], ◌∷◌, map, Option}
use Rattle.std.specs.Prelude.{Some, None, option_map, if◌then◌else◌}
use Rattle.std.specs.Char.{encode_utf8}
use Rattle.general_facts.specs.Ascii.{dollar, ampersand, backslash, caret}
use Rattle.mk_mods.specs.Marks.{TextMark, Char, EscapedDollar, Written, is_char}
use Rattle.mk_mods.specs.Actions.{Symbol, Byte, Whole, Reference}

-- a character that is plain, because a backslash comes before it or a pair means it; one that may be an
-- anchor or mean the old text; or a reference, as it is written
pub data TextSign : Type 0 where
  Plain : ℕ → TextSign
  Bare : ℕ → TextSign
  Inner : List ℕ → TextSign

-- the sign of a mark that no backslash makes plain
abbrev pub sign_of : TextMark → TextSign
sign_of (Char c) = Bare c
sign_of EscapedDollar = Plain dollar
sign_of (Written source) = Inner source

-- what a backslash makes plain: the delimiter, `^`, `$`, `&` and itself
abbrev pub is_escapable : ℕ → ℕ → Bool
is_escapable delimiter c = (c == delimiter) || (c == caret) || (c == dollar) || (c == ampersand) || (c == backslash)

-- the plain character that two marks are, if the first is a backslash that makes the second plain
abbrev pub escaped : ℕ → TextMark → TextMark → Option TextSign
escaped delimiter (Char b) (Char c) = if (b == backslash) && is_escapable delimiter c then Some (Plain c) else None
escaped delimiter (Char b) EscapedDollar = None
escaped delimiter (Char b) (Written source) = None
escaped delimiter EscapedDollar next = None
escaped delimiter (Written source) next = None

-- the sign that a mark begins, and of how many marks it is made: of it and the next one if they are an
-- escape, else of it alone
abbrev pub or_alone : TextMark → Option TextSign → TextSign × ℕ
or_alone mark None = (sign_of mark, 1)
or_alone mark (Some plain) = (plain, 2)

abbrev pub sign_at : ℕ → TextMark → List TextMark → TextSign × ℕ
sign_at delimiter mark [] = or_alone mark None
sign_at delimiter mark (next ∷ marks) = or_alone mark (escaped delimiter mark next)

-- a sign before signs that were read
abbrev pub sign_before : TextSign → List TextSign × List TextMark → List TextSign × List TextMark
sign_before sign read = (sign ∷ read.0, read.1)

-- The signs up to the delimiter, and what follows it; None if there is no delimiter. The delimiter is
-- looked for before an escape is, and references are passed over. The first argument says how many marks
-- are still to pass, which belong to the sign before.
abbrev pub signs_from : ℕ → ℕ → List TextMark → Option (List TextSign × List TextMark)
signs_from left delimiter [] = None
signs_from (suc left) delimiter (mark ∷ marks) = signs_from left delimiter marks
signs_from zero delimiter (mark ∷ marks) =
    if is_char delimiter mark then Some ([], marks)
    else (let sign = sign_at delimiter mark marks in option_map (sign_before sign.0) (signs_from (sign.1 - 1) delimiter marks))

abbrev pub signs_before : ℕ → List TextMark → Option (List TextSign × List TextMark)
signs_before delimiter marks = signs_from zero delimiter marks

-- whether a sign is this character and may be special
abbrev pub is_bare : ℕ → TextSign → Bool
is_bare c (Plain d) = false
is_bare c (Bare d) = d == c
is_bare c (Inner source) = false

-- whether signs begin with the anchor `^`, and the other signs
abbrev pub without_start : List TextSign → Bool × List TextSign
without_start [] = (false, [])
without_start (sign ∷ signs) = if is_bare caret sign then (true, signs) else (false, sign ∷ signs)

-- whether signs end with the anchor `$`, and the other signs
abbrev pub without_end : List TextSign → Bool × List TextSign
without_end [] = (false, [])
without_end (sign ∷ []) = if is_bare dollar sign then (true, []) else (false, sign ∷ [])
without_end (sign ∷ next ∷ signs) = let later = without_end (next ∷ signs) in (later.0, sign ∷ later.1)

-- the symbols of a sign: `&` means the old text, in the new one
abbrev pub sign_symbols : Bool → TextSign → List Symbol
sign_symbols in_new (Plain c) = map Byte (encode_utf8 c)
sign_symbols in_new (Bare c) = if in_new && (c == ampersand) then Whole ∷ [] else map Byte (encode_utf8 c)
sign_symbols in_new (Inner source) = Reference source ∷ []

-- a mark that doesn't begin an escape with the marks after it
abbrev pub BeginsNoEscape : ℕ → TextMark → List TextMark → Type 0
BeginsNoEscape delimiter mark marks =
    (c : ℕ) (more : List TextMark) → mark ≡ Char backslash → marks ≡ Char c ∷ more → is_escapable delimiter c ≡ false

-- Signs are read one after another. The delimiter ends them where it comes first. Else a backslash and the character
-- that it makes plain are a sign, and any other mark is a sign of its own. Without a delimiter there are none.
pub record SignsAreReadInTurn : Type 0 where
  pub ended : (delimiter : ℕ) (rest : List TextMark) → signs_before delimiter (Char delimiter ∷ rest) ≡ Some ([], rest)
  pub escape : (delimiter c : ℕ) (marks : List TextMark) → delimiter ≢ backslash → is_escapable delimiter c ≡ true
      → signs_before delimiter (Char backslash ∷ Char c ∷ marks) ≡ option_map (sign_before (Plain c)) (signs_before delimiter marks)
  pub alone : (delimiter : ℕ) (mark : TextMark) (marks : List TextMark) → mark ≢ Char delimiter → BeginsNoEscape delimiter mark marks
      → signs_before delimiter (mark ∷ marks) ≡ option_map (sign_before (sign_of mark)) (signs_before delimiter marks)
  pub none : (delimiter : ℕ) → signs_before delimiter [] ≡ None
