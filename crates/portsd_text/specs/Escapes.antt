-- Bytes as scripts and transcripts write them. A byte from 32 to 126 that isn't the backslash is written as
-- itself. Any byte may be written as `\r`, `\n`, `\t`, `\\` or `\x` with two hexadecimal digits.
use Rattle.std.specs.Prelude.{ℕ, suc, zero, ◌+◌, ◌-◌, ◌*◌, ◌/◌, ◌%◌, Bool, not, ◌&&◌, ◌||◌, ◌==◌, nat_lt, nat_le, List, [], ◌∷◌}
use Rattle.std.specs.Prelude.{◌++◌, length, flat_map, codes, Option, Some, None, option_map, option_and_then}
use Rattle.std.specs.Prelude.{◌≡◌, if◌then◌else◌, MatchOption, Result, IfOk, Vec}
use Rattle.std.specs.Borrow.{Bor}
use Rattle.std.specs.declared.alloc.Global.{Global}
use Rattle.general_facts.specs.Ascii.{tab, line_feed, carriage_return, space, digit_zero, digit_nine, capital_a}
use Rattle.general_facts.specs.Ascii.{capital_f, backslash, small_a, small_f, small_n, small_r, small_t, small_x, tilde}

-- a byte from the blank to the tilde
abbrev pub is_printable : ℕ → Bool
is_printable byte = nat_le space byte && nat_le byte tilde

-- what a hexadecimal digit of either case is worth
abbrev pub hex_value : ℕ → Option ℕ
hex_value digit =
    if nat_le digit_zero digit && nat_le digit digit_nine then Some (digit - digit_zero)
    else (if nat_le small_a digit && nat_le digit small_f then Some (digit - (small_a - 10))
    else (if nat_le capital_a digit && nat_le digit capital_f then Some (digit - (capital_a - 10)) else None))

-- the byte that two hexadecimal digits write, and the text after them
abbrev pub hex_byte : ℕ → ℕ → List ℕ → Option (ℕ × List ℕ)
hex_byte high low rest =
    option_and_then (λ upper. option_map (λ lower. (upper * 16 + lower, rest)) (hex_value low)) (hex_value high)

-- the same, of a text that begins with the two digits
abbrev pub hex_escape : List ℕ → Option (ℕ × List ℕ)
hex_escape (high ∷ low ∷ rest) = hex_byte high low rest
hex_escape (high ∷ []) = None
hex_escape [] = None

-- the byte that the text after a backslash means, and the text after that
abbrev pub escape_of : List ℕ → Option (ℕ × List ℕ)
escape_of [] = None
escape_of (letter ∷ rest) =
    if letter == small_r then Some (carriage_return, rest)
    else (if letter == small_n then Some (line_feed, rest)
    else (if letter == small_t then Some (tab, rest)
    else (if letter == backslash then Some (backslash, rest)
    else (if letter == small_x then hex_escape rest else None))))

-- the first byte that a text encodes, and the text after it
abbrev pub first_meant : ℕ → List ℕ → Option (ℕ × List ℕ)
first_meant byte rest = if byte == backslash then escape_of rest else Some (byte, rest)

-- the bytes that a text of at most this many bytes encodes
abbrev pub unescaped_within : ℕ → List ℕ → Option (List ℕ)
unescaped_within most [] = Some []
unescaped_within zero (byte ∷ rest) = None
unescaped_within (suc most) (byte ∷ rest) =
    option_and_then (λ first. option_map (λ later. first.0 ∷ later) (unescaped_within most first.1)) (first_meant byte rest)

-- the bytes that a text encodes; `None` if a backslash begins no escape
unfoldable pub unescaped : List ℕ → Option (List ℕ)
unescaped text = unescaped_within (length text) text

-- whether a byte is printed as an escape
abbrev pub is_escaped : ℕ → Bool
is_escaped byte = byte == backslash || not (is_printable byte)

-- a hexadecimal digit, in lower case
abbrev pub hex_digit : ℕ → ℕ
hex_digit value = if nat_lt value 10 then digit_zero + value else small_a - 10 + value

-- a byte by its two hexadecimal digits
abbrev pub hex_text : ℕ → List ℕ
hex_text byte = codes "\\x" ++ (hex_digit (byte / 16) ∷ hex_digit (byte % 16) ∷ [])

-- a byte as it is printed
abbrev pub escape : ℕ → List ℕ
escape byte =
    if byte == backslash then codes "\\\\"
    else (if byte == carriage_return then codes "\\r"
    else (if byte == line_feed then codes "\\n"
    else (if byte == tab then codes "\\t"
    else (if is_printable byte then byte ∷ []
    else hex_text byte))))

-- bytes as they are printed
unfoldable pub escaped_bytes : List ℕ → List ℕ
escaped_bytes bytes = flat_map escape bytes

-- a function read this byte, and left the text after it; or there is none, and it read none
abbrev pub ReadsByte : Option (ℕ × Bor (List ℕ)) → Option (ℕ × List ℕ) → Type 0
ReadsByte result byte = MatchOption result (byte ≡ None) (λ read. byte ≡ Some (read.0, read.1.now))

-- where a function succeeds, it gives these bytes, or none if there are none
abbrev pub GivesBytes : {F : Type 0} → Result (Option (Vec ℕ Global)) F → Option (List ℕ) → Type 0
GivesBytes result bytes = IfOk result (λ given. option_map (λ (made : Vec ℕ Global). made.items) given ≡ bytes)
