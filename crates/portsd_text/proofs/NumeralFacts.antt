-- What a text of digits writes.
use Rattle.std.proofs.Common.{◌≡◌, ℕ, ◌^◌, ◌<◌, ◌≤◌, true, false, List, length, arith, None, Result, Ok, Err}
use Rattle.std.specs.List.{list_all}
use Rattle.std.specs.Char.{is_ascii_digit}
use Rattle.std.specs.Result.{OkIff, result_ok}
use Rattle.std.specs.Str.Parse.{digits_value}
use Rattle.std.proofs.lemmas.Bool.Decides.{nat_tests}
use Rattle.portsd_text.specs.Numerals.{number_of}

pub number_of-long : (text : List ℕ) → 20 < length text → number_of text ≡ None
unfolding number_of
number_of-long text long = grind (arith, nat_tests)

pub number_of-other : (text : List ℕ) → list_all is_ascii_digit text ≡ false → number_of text ≡ None
unfolding number_of
number_of-other text other = grind (arith, nat_tests)

pub number_of-parsed : {E : Type 0} (text : List ℕ) (r : Result ℕ E) → list_all is_ascii_digit text ≡ true → length text ≤ 20
    → OkIff r ((0 < length text) × (digits_value 10 text < 2 ^ 64)) (digits_value 10 text) → result_ok r ≡ number_of text
unfolding number_of
number_of-parsed text (Ok x) digits short parsed = grind (arith, nat_tests)
number_of-parsed text (Err e) digits short parsed = grind (arith, nat_tests)
