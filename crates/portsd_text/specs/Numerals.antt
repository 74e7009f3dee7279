-- Numbers as scripts write them.
use Rattle.std.specs.Prelude.{ℕ, ◌^◌, Bool, ◌&&◌, nat_lt, nat_le, List, length, Option, Some, None, if◌then◌else◌}
use Rattle.std.specs.Char.{is_ascii_digit}
use Rattle.std.specs.List.{list_all}
use Rattle.std.specs.Str.Parse.{digits_value}

-- 1 to 20 decimal digits, which write a number of 64 bits
abbrev pub is_u64_numeral : List ℕ → Bool
is_u64_numeral text =
    list_all is_ascii_digit text && nat_le 1 (length text) && nat_le (length text) 20 && nat_lt (digits_value 10 text) (2 ^ 64)

-- the number that a text writes, if it is a numeral
unfoldable pub number_of : List ℕ → Option ℕ
number_of text = if is_u64_numeral text then Some (digits_value 10 text) else None
