-- Digits are ASCII, and so many write no greater number than fits.
use Rattle.std.proofs.Common.{◌≡◌, ◌≢◌, ◌<◌, ◌≤◌, ◌^◌, ◌∙◌, ℕ, zero, suc, true, List, [], ◌∷◌, length, map, if◌then◌else◌, None, Some}
use Rattle.std.proofs.Common.{IfSome, Result, Ok, Err, refl, sym, ap, subst, arith}
use Rattle.std.specs.List.{list_all}
use Rattle.std.specs.Char.{is_digit, digit_value}
use Rattle.std.specs.Result.{result_ok}
use Rattle.std.specs.Str.{IsAscii}
use Rattle.std.specs.Str.Parse.{AllDigits, digits_value, without_leading_plus, ParsesUnsigned}
use Rattle.std.proofs.lemmas.Bool.{and_parts, leb-true, ltb-true}
use Rattle.std.proofs.lemmas.Bool.Decides.{nat_tests}
use Rattle.std.proofs.lemmas.Int.Digits.{digits_value_is, number_lt, all_below_base_from_digits}
use Rattle.std.proofs.lemmas.List.{length-map}
use Rattle.std.proofs.lemmas.Str.{IsUtf8-from_ascii}
use Rattle.std.proofs.lemmas.Str.Parse.{without_leading_plus_none}
use Rattle.std.proofs.Math.Nat.{pow-le-pow_right}
use Rattle.mk_cond.specs.Numbers.{is_numeral, numeral}
use Rattle.mk_cond.proofs.numbers.numeral.Goals as goal

digit-ascii : (c radix : ℕ) → radix ≤ 36 → digit_value c < radix → c < 128
digit-ascii c radix small digit = grind (arith, nat_tests)

digit-no_plus : (c radix : ℕ) → radix ≤ 36 → digit_value c < radix → c ≢ 43
digit-no_plus c radix small digit is = let low : digit_value 43 < radix = subst (λ b. digit_value b < radix) is
    digit in absurd (omega arith)

all_digits : (radix : ℕ) (digits : List ℕ) → list_all (λ c. is_digit c radix) digits ≡ true → AllDigits radix digits
all_digits radix [] is = tt
all_digits radix (c ∷ digits) is =
    let parts = and_parts (is_digit c radix) (list_all (λ d. is_digit d radix) digits) is in
    (ltb-true (digit_value c) radix parts.0, all_digits radix digits parts.1)

ascii : (radix : ℕ) (digits : List ℕ) → radix ≤ 36 → AllDigits radix digits → IsAscii digits
ascii radix [] small all i = omega arith
ascii radix (c ∷ digits) small all zero = digit-ascii c radix small all.0
ascii radix (c ∷ digits) small all (suc i) = ascii radix digits small all.1 i

-- what a numeral is made of
record Parts (radix most : ℕ) (digits : List ℕ) : Type 0 where
  some : 1 ≤ length digits
  few : length digits ≤ most
  all : AllDigits radix digits

parts : (radix most : ℕ) (digits : List ℕ) → is_numeral radix most digits ≡ true → Parts radix most digits
parts radix most digits is =
    let outer = and_parts _ (list_all (λ c. is_digit c radix) digits) is in
    let sizes = and_parts _ _ outer.0 in
    record { some = leb-true 1 (length digits) sizes.0; few = leb-true (length digits) most sizes.1; all = all_digits radix digits outer.1 }

below : (radix most : ℕ) (digits : List ℕ) → 2 ≤ radix → radix ^ most ≤ 2 ^ 63 → Parts radix most digits
    → digits_value radix digits < 2 ^ 63
below radix most digits base fits p =
    let low : digits_value radix digits < radix ^ length digits = rw (digits_value_is, ← length-map digits digit_value)
    (number_lt radix (map digit_value digits) (all_below_base_from_digits radix digits p.all)) in
    let some : 0 < radix = omega arith in
    omega (arith, low, pow-le-pow_right some p.few, fits)

no_plus : (radix : ℕ) (digits : List ℕ) → radix ≤ 36 → AllDigits radix digits → without_leading_plus digits ≡ digits
no_plus radix [] small all = refl
no_plus radix (c ∷ digits) small all = without_leading_plus_none (c ∷ digits) (digit-no_plus c radix small all.0)

parsed : {E : Type 0} (radix : ℕ) (digits : List ℕ) (r : Result ℕ E) → radix ≤ 36 → 1 ≤ length digits → AllDigits radix digits
    → digits_value radix digits < 2 ^ 63 → ParsesUnsigned 64 radix digits r
    → result_ok r ≡ Some (digits_value radix digits)
parsed radix digits (Ok n) small some all low h = ap Some (h.1 ∙ ap (digits_value radix) (no_plus radix digits small all))
parsed radix digits (Err e) small some all low h =
    let same = no_plus radix digits small all in
    let more : digits_value radix digits < 2 ^ 64 = omega arith in
    absurd (h (rw same (some, all), rw same more))

read : (radix most : ℕ) (digits : List ℕ) → is_numeral radix most digits ≡ true
    → numeral radix most digits ≡ Some (digits_value radix digits)
read radix most digits is = ap (λ b. if b then Some (digits_value radix digits) else None) is

pub returns-in-Ok-clause-value : goal.returns-in-Ok-clause-value
returns-in-Ok-clause-value c =
    let radix = c.args.radix in
    let digits = c.args.digits.now in
    let is : is_numeral radix c.args.most digits ≡ true = sym c.is_numeral.ensures ∙ c.if-not-is_numeral.false in
    let p = parts radix c.args.most digits is in
    c.ok.ensures.value
    ∙ parsed radix digits c.from_str_radix.result c.requires.greatest p.some p.all
    (below radix c.args.most digits c.requires.least c.requires.few p) (rw c.in-Ok.ensures.cases.0 at c.from_str_radix.ensures.value)
    ∙ sym (read radix c.args.most digits is)

pub returns-in-Ok-clause-small : goal.returns-in-Ok-clause-small
returns-in-Ok-clause-small c =
    let radix = c.args.radix in
    let digits = c.args.digits.now in
    let is : is_numeral radix c.args.most digits ≡ true = sym c.is_numeral.ensures ∙ c.if-not-is_numeral.false in
    let p = parts radix c.args.most digits is in
    let low : digits_value radix digits < 2 ^ 63 = below radix c.args.most digits c.requires.least c.requires.few p in
    subst (λ o. IfSome o (λ n. n < 2 ^ 63))
    (sym (c.ok.ensures.value ∙ parsed radix digits c.from_str_radix.result c.requires.greatest p.some p.all low
    (rw c.in-Ok.ensures.cases.0 at c.from_str_radix.ensures.value)))
    low

pub returns-in-Err-clause-value : goal.returns-in-Err-clause-value
returns-in-Err-clause-value c =
    let radix = c.args.radix in
    let digits = c.args.digits.now in
    let is : is_numeral radix c.args.most digits ≡ true = sym c.is_numeral.ensures ∙ c.if-not-is_numeral.false in
    absurd (c.in-Err.ensures.cases.0
    (IsUtf8-from_ascii digits (ascii radix digits c.requires.greatest (parts radix c.args.most digits is).all)))
