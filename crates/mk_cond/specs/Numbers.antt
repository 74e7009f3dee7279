-- Numbers in conditions. How they are written, and that none has more digits, is this project's choice.
use Rattle.std.specs.Prelude.{ℕ, ℤ, pos, neg_ℤ, ◌==◌, ◌&&◌, not, nat_le, nat_eq, int_lt, int_le, Bool, true}
use Rattle.std.specs.Prelude.{if◌then◌else◌, List, [], ◌∷◌, length, drop, codes, Option, Some, None, option_map}
use Rattle.std.specs.List.{list_all, starts_with}
use Rattle.std.specs.Char.{is_digit}
use Rattle.std.specs.Ordering.{int_eq}
use Rattle.std.specs.Str.Parse.{digits_value}
use Rattle.general_facts.specs.Ascii.{plus_sign, dash}
use Rattle.mk_cond_tree.specs.declared.tokens.Comparison.{Comparison}
use Rattle.mk_cond_tree.specs.declared.tokens.Comparison.TheVariants as signs

-- one digit or more in a radix, and no more than this many
abbrev pub is_numeral : ℕ → ℕ → List ℕ → Bool
is_numeral radix most digits = nat_le 1 (length digits) && nat_le (length digits) most && list_all (λ c. is_digit c radix) digits

-- the number that they write
abbrev pub numeral : ℕ → ℕ → List ℕ → Option ℕ
numeral radix most digits = if is_numeral radix most digits then Some (digits_value radix digits) else None

-- a decimal number: `-`, `+` or no sign, and 1 to 18 digits
abbrev pub decimal : List ℕ → Option ℤ
decimal [] = None
decimal (b ∷ rest) =
    if b == dash then option_map (λ n. neg_ℤ (pos n)) (numeral 10 18 rest)
    else if b == plus_sign then option_map pos (numeral 10 18 rest)
    else option_map pos (numeral 10 18 (b ∷ rest))

-- the number that a text is: `0x` and 1 to 15 hexadecimal digits, or a decimal number
unfoldable pub hex_or_decimal : List ℕ → Option ℤ
hex_or_decimal text = if starts_with nat_eq text (codes "0x") then option_map pos (numeral 16 15 (drop 2 text)) else decimal text

-- whether this comparison holds between two numbers
abbrev pub numbers_compare : Comparison → ℤ → ℤ → Bool
numbers_compare signs.Equal left right = int_eq left right
numbers_compare signs.Unequal left right = not (int_eq left right)
numbers_compare signs.Less left right = int_lt left right
numbers_compare signs.AtMost left right = int_le left right
numbers_compare signs.Greater left right = int_lt right left
numbers_compare signs.AtLeast left right = int_le right left

-- whether a side holds that may be a number: the number 0 is false, and all else is true
abbrev pub isnt_zero : Option ℤ → Bool
isnt_zero None = true
isnt_zero (Some number) = not (int_eq number (pos 0))
