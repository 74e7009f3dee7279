-- What bytes begin with.
use Rattle.std.specs.Prelude.{ℕ, zero, suc, nat_lt, if◌then◌else◌, List, [], ◌∷◌, length, take, drop, Option, Some, None}
use Rattle.std.specs.Int.{Width, w64, byte_len, from_le_bytes}
use Rattle.std.specs.Str.{is_utf8}

-- What is read from the front of bytes, with the bytes after it. It is `None` if no such thing is there.
abbrev pub Read : Type 0 → Type 0
Read A = List ℕ → Option (A × List ℕ)

-- this value, and nothing is read
abbrev pub give : {A : Type 0} → A → Read A
give x bytes = Some (x, bytes)

-- no value
abbrev pub refuse : {A : Type 0} → Read A
refuse bytes = None

-- what is read after what was read
abbrev pub read_after : {A B : Type 0} → Option (A × List ℕ) → (A → Read B) → Option (B × List ℕ)
read_after None next = None
read_after (Some found) next = next found.0 found.1

-- one thing, and after it another that depends on it
infixl 10 ◌>>=◌
abbrev pub ◌>>=◌ : {A B : Type 0} → Read A → (A → Read B) → Read B
(read >>= next) bytes = read_after (read bytes) next

-- a value, if there is one, and nothing is read
abbrev pub give_if_some : {A : Type 0} → Option A → Read A
give_if_some None = refuse
give_if_some (Some x) = give x

-- a byte
unfoldable pub byte : Read ℕ
byte [] = None
byte (first ∷ rest) = Some (first, rest)

-- so many bytes
unfoldable pub stretch : ℕ → Read (List ℕ)
stretch count bytes = if nat_lt (length bytes) count then None else Some (take count bytes, drop count bytes)

-- a number, its lowest byte first
unfoldable pub number : Width → Read ℕ
number width bytes = (stretch (byte_len width) >>= λ digits. give (from_le_bytes width digits)) bytes

-- these bytes, if they are UTF-8
unfoldable pub utf8_text : List ℕ → Read (List ℕ)
utf8_text found bytes = if is_utf8 found then Some (found, bytes) else None

-- a text: how many bytes it has, and then these, which are UTF-8
unfoldable pub text : Read (List ℕ)
text bytes = (number w64 >>= λ count. stretch count >>= λ found. utf8_text found) bytes

-- so many things, one after another
unfoldable pub counted_items : {A : Type 0} → Read A → ℕ → Read (List A)
counted_items read zero bytes = Some ([], bytes)
counted_items read (suc more) bytes = (read >>= λ first. counted_items read more >>= λ others. give (first ∷ others)) bytes

-- a list of things: how many there are, and then these
unfoldable pub list : {A : Type 0} → Read A → Read (List A)
list read bytes = (number w64 >>= λ count. counted_items read count) bytes

-- a list of texts
abbrev pub texts : Read (List (List ℕ))
texts = list text
