-- Digits are ASCII, and 18 of them write a number of 64 bits.
use Rattle.std.proofs.Common.{◌≡◌, ◌<◌, ◌≤◌, ◌∙◌, ℕ, List, [], ◌∷◌, length, true, ap, refl, Result, Ok, Err, arith}
use Rattle.std.proofs.lemmas.Fmt.{IsAscii-from_digits}
use Rattle.std.proofs.lemmas.Str.{IsUtf8-from_ascii}
use Rattle.std.proofs.lemmas.Str.Parse.{digits_value_short, parse_gives}
use Rattle.std.specs.Char.{is_ascii_digit}
use Rattle.std.specs.List.{list_all}
use Rattle.std.specs.Result.{result_ok}
use Rattle.std.specs.Str.Parse.{ParsesUnsigned}
use Rattle.general_facts.specs.Texts.{decimal_numerals}
use Rattle.pkg_name.specs.Order.{number_written}
use Rattle.pkg_name.proofs.version_order.number.Goals as goal

parsed : {E : Type 0} (text digits : List ℕ) (r : Result ℕ E) → ParsesUnsigned 64 10 text r → text ≡ digits
    → list_all is_ascii_digit digits ≡ true → length digits ≤ 18 → result_ok r ≡ number_written digits
parsed text [] (Ok n) h same all few =
    let read = rw same at h in
    let some : 0 < 0 = read.0.0.0 in
    absurd (omega arith)
parsed text [] (Err e) h same all few = refl
parsed text (digit ∷ digits) r h same all few =
    ap result_ok (parse_gives decimal_numerals 64 (digit ∷ digits) r (rw same at h) all (omega arith)
    (omega (arith, digits_value_short decimal_numerals (digit ∷ digits) 18 all few)))

pub returns-in_default : goal.returns-in_default
returns-in_default c =
    absurd (c.in_default.ensures.cases.0
    (IsUtf8-from_ascii c.args.digits.now (IsAscii-from_digits c.args.digits.now (decimal_numerals.to c.args.digits.now c.requires.digits))))

pub returns : goal.returns
returns c = c.ok.ensures.value ∙ parsed c.in-Ok.digits.now c.args.digits.now c.parse.result c.parse.ensures.value.0 c.in-Ok.ensures.cases.0
    c.requires.digits c.requires.few
