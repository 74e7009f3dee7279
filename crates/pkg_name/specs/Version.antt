-- Which texts are versions of packages (packages-specs(7)). A text is its bytes.
use Rattle.std.specs.Prelude.{ℕ, ◌==◌, nat_le, ◌&&◌, ◌||◌, Bool, true, List, [], ◌∷◌, slice_index, IsTrue}
use Rattle.std.specs.List.{list_all, prefix_len}
use Rattle.std.specs.Char.{is_ascii_digit, is_ascii_alphanumeric}
use Rattle.general_facts.specs.Ascii.{plus_sign, dot, underscore}

-- a byte of a version: an ASCII letter or digit, `.`, `_` or `+`
abbrev pub is_version_byte : ℕ → Bool
is_version_byte byte = is_ascii_alphanumeric byte || byte == dot || byte == underscore || byte == plus_sign

-- how many digits are at the front of a text
abbrev pub digit_count : List ℕ → ℕ
digit_count text = prefix_len is_ascii_digit text

-- no number has more than 18 digits, wherever it begins
unfoldable pub has_short_numbers : List ℕ → Bool
has_short_numbers [] = true
has_short_numbers (byte ∷ rest) = nat_le (digit_count (byte ∷ rest)) 18 && has_short_numbers rest

-- the first byte is a digit
abbrev pub begins_with_digit : List ℕ → Bool
begins_with_digit text = is_ascii_digit (slice_index text 0)

-- a version begins with a digit, has only bytes of versions, and no number of more than 18 digits
abbrev pub is_version : List ℕ → Bool
is_version text = begins_with_digit text && list_all is_version_byte text && has_short_numbers text

-- this text is a version
abbrev pub IsVersion : List ℕ → Type 0
IsVersion text = IsTrue (is_version text)
