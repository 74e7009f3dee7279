-- What escaped texts mean.
use Rattle.std.proofs.Common.{◌≡◌, ◌==◌, ℕ, suc, zero, ◌+◌, ◌*◌, ◌<◌, ◌≤◌, Bool, true, false, cond, List, [], ◌∷◌, ◌++◌, length, refl, sym}
use Rattle.std.proofs.Common.{ap, ◌∙◌, arith, Option, Some, None, option_map, option_and_then, append_assoc, append-nil, eqb, codes, ◌^◌}
use Rattle.std.proofs.Common.{◌-◌, get_or, take, drop}
use Rattle.std.proofs.lemmas.List.{take_all, drop_all, drop_more}
use Rattle.std.proofs.lemmas.Str.{IsUtf8-from_ascii}
use Rattle.std.proofs.lemmas.Str.Ascii.{IsAscii-from_all}
use Rattle.std.proofs.lemmas.Bool.Decides.{nat_tests}
use Rattle.std.specs.List.{All, position, position_or_len, before_first}
use Rattle.std.specs.Str.{IsUtf8}
use Rattle.std.specs.Fmt.{padded_integral, format_spec, digits}
use Rattle.std.proofs.lemmas.Fmt.{hex_byte as hex_byte_text}
use Rattle.portsd_text.proofs.PlaceFacts.{position-none, position-some, passes-at, position_or_len-cons}
use Rattle.portsd_text.specs.Escapes.{hex_value, hex_byte, hex_escape, escape_of, first_meant, unescaped_within, unescaped, is_escaped}
use Rattle.portsd_text.specs.Escapes.{hex_text, escape, escaped_bytes}

-- the text is no shorter than what follows its first byte
abbrev IsShorter : Option (ℕ × List ℕ) → ℕ → Type 0
IsShorter None size = Unit {0}
IsShorter (Some first) size = length first.1 ≤ size

IsShorter-hex_byte : (high low : ℕ) (rest : List ℕ) (size : ℕ) → length rest ≤ size → IsShorter (hex_byte high low rest) size
IsShorter-hex_byte high low rest size h =
    elim (hex_value high) as (λ v. IsShorter (option_and_then (λ upper. option_map (λ lower. (upper * 16 + lower, rest)) (hex_value low)) v)
    size) [
      | None ↦ tt
      | Some upper ↦ elim (hex_value low) as (λ v. IsShorter (option_map (λ lower. (upper * 16 + lower, rest)) v) size)
          [ None ↦ tt | Some lower ↦ h ]
    ]

IsShorter-cond : (b : Bool) (x y : Option (ℕ × List ℕ)) (size : ℕ) → IsShorter x size → IsShorter y size → IsShorter (cond b x y) size
IsShorter-cond true x y size h k = h
IsShorter-cond false x y size h k = k

IsShorter-hex_escape : (text : List ℕ) (size : ℕ) → length text ≤ size → IsShorter (hex_escape text) size
IsShorter-hex_escape [] size h = tt
IsShorter-hex_escape (high ∷ []) size h = tt
IsShorter-hex_escape (high ∷ low ∷ rest) size h = IsShorter-hex_byte high low rest size (omega arith)

IsShorter-escape_of : (text : List ℕ) (size : ℕ) → length text ≤ size → IsShorter (escape_of text) size
IsShorter-escape_of [] size h = tt
IsShorter-escape_of (letter ∷ rest) size h =
    let k : length rest ≤ size = omega arith in
    IsShorter-cond (eqb letter 114) _ _ size k
    (IsShorter-cond (eqb letter 110) _ _ size k
    (IsShorter-cond (eqb letter 116) _ _ size k
    (IsShorter-cond (eqb letter 92) _ _ size k
    (IsShorter-cond (eqb letter 120) _ _ size (IsShorter-hex_escape rest size k) tt))))

pub IsShorter-first_meant : (byte : ℕ) (rest : List ℕ) → IsShorter (first_meant byte rest) (length rest)
IsShorter-first_meant byte rest =
    IsShorter-cond (eqb byte 92) (escape_of rest) (Some (byte, rest)) (length rest) (IsShorter-escape_of rest (length rest) (omega arith))
    (omega arith)

-- what a first byte is before
abbrev in_front : ℕ → Option (ℕ × List ℕ) → Option (List ℕ)
in_front most first = option_and_then (λ f. option_map (λ later. f.0 ∷ later) (unescaped_within most f.1)) first

in_front-same : (n m : ℕ) (first : Option (ℕ × List ℕ)) (size : ℕ) → IsShorter first size
    → ((text : List ℕ) → length text ≤ size → unescaped_within n text ≡ unescaped_within m text) → in_front n first ≡ in_front m first
in_front-same n m None size s e = refl
in_front-same n m (Some f) size s e = ap (λ x. option_map (λ later. f.0 ∷ later) x) (e f.1 s)

-- the bound doesn't matter where it is large enough
within_enough : (n m : ℕ) (text : List ℕ) → length text ≤ n → length text ≤ m → unescaped_within n text ≡ unescaped_within m text
within_enough n m [] h k = refl
within_enough zero m (byte ∷ rest) h k = absurd (omega arith)
within_enough (suc n) zero (byte ∷ rest) h k = absurd (omega arith)
within_enough (suc n) (suc m) (byte ∷ rest) h k =
    in_front-same n m (first_meant byte rest) (length rest) (IsShorter-first_meant byte rest)
    (λ text l. within_enough n m text (omega arith) (omega arith))

-- what a first byte is before
abbrev before_later : Option (ℕ × List ℕ) → Option (List ℕ)
before_later first = option_and_then (λ f. option_map (λ later. f.0 ∷ later) (unescaped f.1)) first

unescaped-cons : (byte : ℕ) (rest : List ℕ) → unescaped (byte ∷ rest) ≡ before_later (first_meant byte rest)
unfolding unescaped
unescaped-cons byte rest = same (first_meant byte rest) (IsShorter-first_meant byte rest)
  where
    same : (first : Option (ℕ × List ℕ)) → IsShorter first (length rest) → in_front (length rest) first ≡ option_and_then
        (λ f. option_map (λ later. f.0 ∷ later) (unescaped_within (length f.1) f.1)) first
    same None s = refl
    same (Some f) s = ap (λ x. option_map (λ later. f.0 ∷ later) x) (within_enough (length rest) (length f.1) f.1 s (omega arith))

unescaped-nil : unescaped [] ≡ Some []
unfolding unescaped
unescaped-nil = refl

-- the byte that begins an escape
abbrev is_backslash : ℕ → Bool
is_backslash byte = byte == 92

before_nothing : (o : Option (List ℕ)) → option_map (λ later. [] ++ later) o ≡ o
before_nothing None = refl
before_nothing (Some later) = refl

before_twice : (first second : List ℕ) (o : Option (List ℕ)) → option_map (λ later. first ++ later)
    (option_map (λ later. second ++ later) o) ≡ option_map (λ later. (first ++ second) ++ later) o
before_twice first second None = refl
before_twice first second (Some later) = ap Some (sym (append_assoc first second later))

-- up to the first backslash bytes are read as they are
unescaped-front : (text : List ℕ) → unescaped text ≡ option_map (λ later. before_first is_backslash text ++ later)
    (unescaped (drop (position_or_len is_backslash text) text))
unescaped-front [] = sym (before_nothing (unescaped []))
unescaped-front (byte ∷ rest) = by (is_backslash byte) refl (unescaped-front rest)
  where
    by : (b : Bool) → is_backslash byte ≡ b → unescaped rest ≡ option_map (λ later. before_first is_backslash rest ++ later)
        (unescaped (drop (position_or_len is_backslash rest) rest)) → unescaped (byte ∷ rest) ≡ option_map
        (λ later. before_first is_backslash (byte ∷ rest) ++ later)
        (unescaped (drop (position_or_len is_backslash (byte ∷ rest)) (byte ∷ rest)))
    by true t e = rw t (sym (before_nothing (unescaped (byte ∷ rest))))
    by false t e = rw (position_or_len-cons is_backslash byte rest t, unescaped-cons byte rest, t, e)
        (before_twice (byte ∷ []) (before_first is_backslash rest) (unescaped (drop (position_or_len is_backslash rest) rest)))

-- at a backslash an escape is read
unescaped-at : (text : List ℕ) (at : ℕ) → position is_backslash text ≡ Some at
    → unescaped text ≡ option_map (λ later. take at text ++ later) (before_later (escape_of (drop (at + 1) text)))
unescaped-at text at found =
    let place = position-some is_backslash text at found in
    let begins : unescaped (drop at text) ≡ before_later (escape_of (drop (at + 1) text)) =
    rw (drop_more text at 0 place.0, unescaped-cons (get_or text at 0) (drop (at + 1) text), passes-at is_backslash text at found) refl
    in
    rw place.1 at (unescaped-front text) ∙ ap (λ o. option_map (λ later. take at text ++ later) o) begins

pub unescaped-bad : (text : List ℕ) (at : ℕ) → position is_backslash text ≡ Some at
    → escape_of (drop (at + 1) text) ≡ None → unescaped text ≡ None
unescaped-bad text at found bad = rw (unescaped-at text at found, bad) refl

-- a run and an escape are read, after what was read before
pub unescaped-more : (before text : List ℕ) (at meant : ℕ) (left : List ℕ) → position is_backslash text ≡ Some at
    → escape_of (drop (at + 1) text) ≡ Some (meant, left) → option_map (λ later. ((before ++ take at text) ++ meant ∷ []) ++ later)
    (unescaped left) ≡ option_map (λ later. before ++ later) (unescaped text)
unescaped-more before text at meant left found e =
    rw (unescaped-at text at found, e, before_twice before (take at text) (option_map (λ later. meant ∷ later) (unescaped left)))
    (sym (before_twice (before ++ take at text) (meant ∷ []) (unescaped left)))

-- nothing more is escaped
pub unescaped-end : (before text : List ℕ) → position is_backslash text ≡ None → option_map (λ later. before ++ later)
    (unescaped text) ≡ Some (before ++ text)
unescaped-end before text none =
    let past = position-none is_backslash text none in
    let all : unescaped text ≡ Some text =
    rw (
      take_all (position_or_len is_backslash text) text past,
      drop_all (position_or_len is_backslash text) text past,
      unescaped-nil,
      append-nil,
    ) at (unescaped-front text) in
    rw all refl

-- a byte that isn't printed as an escape is printed as it is
escape-plain : (byte : ℕ) → is_escaped byte ≡ false → escape byte ≡ byte ∷ []
escape-plain byte h = grind (arith, nat_tests)

-- the bytes before the first escape are a text
plain_small : (bytes : List ℕ) → All (λ byte. byte < 128) (before_first is_escaped bytes)
plain_small [] = grind (arith, nat_tests)
plain_small (byte ∷ bytes) = by (is_escaped byte) refl (plain_small bytes)
  where
    by : (b : Bool) → is_escaped byte ≡ b → All (λ byte. byte < 128) (before_first is_escaped bytes)
        → All (λ byte. byte < 128) (before_first is_escaped (byte ∷ bytes))
    by true t small = rw t (grind (arith, nat_tests))
    by false t small = rw (position_or_len-cons is_escaped byte bytes t) (grind (arith, nat_tests))

front-IsUtf8 : (bytes : List ℕ) → IsUtf8 (before_first is_escaped bytes)
front-IsUtf8 bytes = IsUtf8-from_ascii (before_first is_escaped bytes)
    (IsAscii-from_all (before_first is_escaped bytes) (plain_small bytes))

pub plain-IsUtf8 : (bytes : List ℕ) (at : ℕ) → position is_escaped bytes ≡ Some at → IsUtf8 (take at bytes)
plain-IsUtf8 bytes at found = rw (position-some is_escaped bytes at found).1 at (front-IsUtf8 bytes)

pub all_plain-IsUtf8 : (bytes : List ℕ) → position is_escaped bytes ≡ None → IsUtf8 bytes
all_plain-IsUtf8 bytes none = rw (take_all (position_or_len is_escaped bytes) bytes (position-none is_escaped bytes none)) at
    (front-IsUtf8 bytes)

escaped_bytes-nil : escaped_bytes [] ≡ []
unfolding escaped_bytes
escaped_bytes-nil = refl

-- those bytes are printed as they are
escaped_bytes-front : (bytes : List ℕ) → escaped_bytes bytes ≡ before_first is_escaped bytes ++ escaped_bytes
    (drop (position_or_len is_escaped bytes) bytes)
unfolding escaped_bytes
escaped_bytes-front [] = refl
escaped_bytes-front (byte ∷ bytes) = by (is_escaped byte) refl (escaped_bytes-front bytes)
  where
    by : (b : Bool) → is_escaped byte ≡ b → escaped_bytes bytes ≡ before_first is_escaped bytes ++ escaped_bytes
        (drop (position_or_len is_escaped bytes) bytes) → escaped_bytes (byte ∷ bytes) ≡ before_first is_escaped (byte ∷ bytes) ++
        escaped_bytes (drop (position_or_len is_escaped (byte ∷ bytes)) (byte ∷ bytes))
    by true t e = rw t refl
    by false t e = rw (position_or_len-cons is_escaped byte bytes t, escape-plain byte t) (ap (λ x. byte ∷ x) e)

cons-escaped : (bytes : List ℕ) (at : ℕ) → at < length bytes → escaped_bytes (drop at bytes) ≡ escape (get_or bytes at 0) ++
    escaped_bytes (drop (at + 1) bytes)
unfolding escaped_bytes
cons-escaped bytes at h = rw (drop_more bytes at 0 h) refl

pub escaped_bytes-run : (bytes : List ℕ) (at : ℕ) → position is_escaped bytes ≡ Some at → escaped_bytes bytes ≡ take at bytes ++
    (escape (get_or bytes at 0) ++ escaped_bytes (drop (at + 1) bytes))
escaped_bytes-run bytes at found =
    let place = position-some is_escaped bytes at found in
    rw place.1 at (escaped_bytes-front bytes) ∙ ap (λ x. take at bytes ++ x) (cons-escaped bytes at place.0)

pub escaped_bytes-plain : (bytes : List ℕ) → position is_escaped bytes ≡ None → escaped_bytes bytes ≡ bytes
escaped_bytes-plain bytes none =
    let past = position-none is_escaped bytes none in
    rw (
      take_all (position_or_len is_escaped bytes) bytes past,
      drop_all (position_or_len is_escaped bytes) bytes past,
      escaped_bytes-nil,
      append-nil,
    ) at (escaped_bytes-front bytes)

-- what `{:02x}` writes of a byte
pub hex_text-is : (byte : ℕ) → byte < 256 → hex_text byte ≡ codes "\\x" ++ padded_integral (format_spec 32 0 4 2 (2 ^ 64 - 1)) false
    [] (digits 16 false byte)
hex_text-is byte small = rw (hex_byte_text false byte small)
