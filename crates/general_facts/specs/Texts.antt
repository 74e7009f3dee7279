-- Texts by their bytes.
use Rattle.std.proofs.Common.{◌≡◌, refl, sym, ℕ, ◌<◌, Bool, true, false, List, rules, arith}
use Rattle.std.proofs.lemmas.Bool.Decides.{nat_tests}
use Rattle.std.proofs.lemmas.Slice.Eq.{bytes_eq-Decides}
use Rattle.std.proofs.lemmas.Str.{IsUtf8-from_is_utf8}
use Rattle.std.proofs.lemmas.Str.Parse.{IsNumeralModel, numerals_by_value}
use Rattle.std.specs.Bool.{one_answer}
use Rattle.std.specs.Char.{is_ascii_alphabetic, is_ascii_digit}
use Rattle.std.specs.List.{list_all}
use Rattle.std.specs.Str.{bytes_eq, is_utf8, IsUtf8}
use Rattle.std.specs.Str.Parse.{digits_value}

pub bytes_eq-sym : (xs ys : List ℕ) → bytes_eq xs ys ≡ bytes_eq ys xs
bytes_eq-sym xs ys =
    one_answer (bytes_eq xs ys) (bytes_eq ys xs) (bytes_eq-Decides xs ys)
    (λ e. sym ((bytes_eq-Decides ys xs).0 e), λ e. (bytes_eq-Decides ys xs).1 (sym e))

-- letters are ASCII
pub alphabetic-ascii : (b : ℕ) → is_ascii_alphabetic b ≡ true → b < 128
alphabetic-ascii b is = grind (arith, nat_tests)

-- what isn't UTF-8 doesn't pass the test
pub is_utf8-not : (bytes : List ℕ) → ¬ (IsUtf8 bytes) → is_utf8 bytes ≡ false
is_utf8-not bytes bad = by (is_utf8 bytes) (λ is. bad (IsUtf8-from_is_utf8 bytes is))
  where
    by : (b : Bool) → (b ≡ true → ⊥) → b ≡ false
    by true bad = absurd (bad refl)
    by false bad = refl

-- digits are read by their value
pub decimal_numerals : IsNumeralModel (λ digits. list_all is_ascii_digit digits ≡ true) (digits_value 10)
decimal_numerals = numerals_by_value _ (search rules)
