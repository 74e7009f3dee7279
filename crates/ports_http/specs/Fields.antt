-- The fields of a head, as pairs of a name and a value without the white space around it
-- (RFC 9110, section 5).
use Rattle.std.specs.Prelude.{ℕ, Bool, ◌&&◌, ◌||◌, ◌==◌, nat_le, List, [], ◌∷◌, length, if◌then◌else◌, codes, Option, Some, None}
use Rattle.std.specs.Char.{is_ascii_digit}
use Rattle.std.specs.List.{list_all, list_any, slice_split}
use Rattle.std.specs.Str.{str_eq_ignore_ascii_case}
use Rattle.general_facts.specs.Ascii.{comma}
use Rattle.httparse.specs.Grammar.{trim_ows}

-- a name and a value
abbrev pub NamedField : Type 0
NamedField = List ℕ × List ℕ

-- field names are compared without regard to the case of ASCII letters (RFC 9110, section 5.1)
abbrev pub is_named : List ℕ → NamedField → Bool
is_named name field = str_eq_ignore_ascii_case field.0 name

-- the values of the fields of this name, in order
unfoldable pub field_values : List ℕ → List NamedField → List (List ℕ)
field_values name [] = []
field_values name (field ∷ fields) =
    if is_named name field then field.1 ∷ field_values name fields else field_values name fields

-- the one value, if there is exactly one
abbrev pub only_value : List (List ℕ) → Option (List ℕ)
only_value [] = None
only_value (value ∷ []) = Some value
only_value (value ∷ other ∷ values) = None

-- the key of a request: the value of X-Ports-Key, if there is exactly one
abbrev pub request_key : List NamedField → Option (List ℕ)
request_key fields = only_value (field_values (codes "x-ports-key") fields)

-- a Content-Length that is read: 1 to 18 decimal digits
abbrev pub is_length : List ℕ → Bool
is_length value = nat_le 1 (length value) && nat_le (length value) 18 && list_all is_ascii_digit value

-- the option close of a Connection field, without regard to case (RFC 9112, section 9.6)
abbrev pub is_close_option : List ℕ → Bool
is_close_option word = str_eq_ignore_ascii_case (trim_ows word) (codes "close")

-- a Connection field that has close among its options, which commas separate
abbrev pub is_closing : NamedField → Bool
is_closing field =
    is_named (codes "connection") field && list_any is_close_option (slice_split (λ b. b == comma) field.1)

-- whether the connection ends after a request: always with HTTP/1.0, else if a field says so
abbrev pub ends_connection : ℕ → List NamedField → Bool
ends_connection minor fields = minor == 0 || list_any is_closing fields
