-- Digits are ASCII, and 18 of them write a number of 64 bits.
use Rattle.std.proofs.Common.{◌≡◌, ◌≤◌, ◌∙◌, ℕ, List, length, true, Some, sym, ap, Result, arith}
use Rattle.std.proofs.lemmas.Bool.{and_parts, leb-true}
use Rattle.std.proofs.lemmas.Fmt.{IsAscii-from_digits}
use Rattle.std.proofs.lemmas.Str.{IsUtf8-from_ascii}
use Rattle.std.proofs.lemmas.Str.Parse.{digits_value_short, parse_gives}
use Rattle.std.specs.Char.{is_ascii_digit}
use Rattle.std.specs.List.{list_all}
use Rattle.std.specs.Result.{result_ok}
use Rattle.std.specs.Str.{IsUtf8}
use Rattle.std.specs.Str.Parse.{digits_value, ParsesUnsigned}
use Rattle.general_facts.specs.Texts.{decimal_numerals}
use Rattle.ports_http.specs.Fields.{is_length}
use Rattle.ports_http.proofs.fields.length_of.Goals as goal

digits : (value : List ℕ) → is_length value ≡ true → list_all is_ascii_digit value ≡ true
digits value is = (and_parts _ (list_all is_ascii_digit value) is).1

length-IsUtf8 : (value : List ℕ) → is_length value ≡ true → IsUtf8 value
length-IsUtf8 value is = IsUtf8-from_ascii value (IsAscii-from_digits value (decimal_numerals.to value (digits value is)))

parsed : {E : Type 0} (text value : List ℕ) (r : Result ℕ E) → ParsesUnsigned 64 10 text r → text ≡ value → is_length value ≡ true
    → result_ok r ≡ Some (digits_value 10 value)
parsed text value r h same is =
    let sizes = and_parts _ _ (and_parts _ (list_all is_ascii_digit value) is).0 in
    let some : 1 ≤ length value = leb-true 1 (length value) sizes.0 in
    let few : length value ≤ 18 = leb-true (length value) 18 sizes.1 in
    ap result_ok (parse_gives decimal_numerals 64 value r (rw same at h) (digits value is) (omega arith)
    (omega (arith, digits_value_short decimal_numerals value 18 (digits value is) few)))

pub returns-in_default : goal.returns-in_default
returns-in_default c =
    absurd (c.in_default.ensures.cases.0 (length-IsUtf8 c.args.value.now (sym c.is_length.ensures ∙ c.if-not-is_length.false)))

pub returns : goal.returns
returns c =
    let is : is_length c.args.value.now ≡ true = sym c.is_length.ensures ∙ c.if-not-is_length.false in
    rw is (c.ok.ensures.value ∙ parsed c.in-Ok.digits.now c.args.value.now c.parse.result c.parse.ensures.value.0
    c.in-Ok.ensures.cases.0 is)
