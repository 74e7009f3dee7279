-- The order of versions of packages (packages-specs(7)): the lexicographic order of a list of keys. A text
-- is its bytes.
use Rattle.std.specs.Prelude.{ℕ, ◌==◌, ◌&&◌, if◌then◌else◌, Bool, false, List, [], ◌∷◌, map, drop, codes, Option, Some, None}
use Rattle.std.specs.Prelude.{MatchOption, ◌≡◌}
use Rattle.std.specs.List.{list_all, prefix_len, take_while, slice_split}
use Rattle.std.specs.Char.{is_ascii_digit, is_ascii_alphabetic}
use Rattle.std.specs.Str.{bytes_eq}
use Rattle.std.specs.Option.{option_cmp}
use Rattle.std.specs.Str.Parse.{digits_value}
use Rattle.std.specs.Ordering.{nat_cmp, on, then_cmp}
use Rattle.std.specs.declared.cmp.Ordering.{Ordering}
use Rattle.std.specs.Cmp.Lexicographic.{slice_cmp}
use Rattle.std.specs.Borrow.{Bor}
use Rattle.general_facts.specs.Ascii.{dot, small_p, small_v}

-- the number that decimal digits write; None if there are no digits
abbrev pub number_written : List ℕ → Option ℕ
number_written [] = None
number_written (digit ∷ digits) = Some (digits_value 10 (digit ∷ digits))

-- what follows the bytes at the front that pass a test
abbrev pub past_while : (ℕ → Bool) → List ℕ → List ℕ
past_while test text = drop (prefix_len test text) text

-- one or more digits
abbrev pub is_number : List ℕ → Bool
is_number [] = false
is_number (byte ∷ rest) = list_all is_ascii_digit (byte ∷ rest)

-- a text whose end, a letter and a number, is taken off: what is before that end, and the number; if the
-- text has no such end, the number is None
pub record Ended : Type 0 where
  pub before : List ℕ
  pub number : Option ℕ

-- the text with its end taken off, the given letter and a number
unfoldable pub ended_by : ℕ → List ℕ → Ended
ended_by letter [] = record { before = []; number = None }
ended_by letter (byte ∷ rest) =
    if byte == letter && is_number rest
    then record { before = []; number = number_written rest }
    else record { before = byte ∷ (ended_by letter rest).before; number = (ended_by letter rest).number }

-- the keys of a part: the number it begins with, the letters after that, the number after
-- these, and the rest
pub record PartKey : Type 0 where
  pub number : Option ℕ
  pub letters : List ℕ
  pub second : Option ℕ
  pub rest : List ℕ

-- the keys of a part's text
abbrev pub part_key : List ℕ → PartKey
part_key part =
    let after_number = past_while is_ascii_digit part in
    let after_letters = past_while is_ascii_alphabetic after_number in
    record {
      number = number_written (take_while is_ascii_digit part);
      letters = take_while is_ascii_alphabetic after_number;
      second = number_written (take_while is_ascii_digit after_letters);
      rest = past_while is_ascii_digit after_letters;
    }

-- the keys of the parts between the dots of a text
abbrev pub part_keys : List ℕ → List PartKey
part_keys text = map part_key (slice_split (λ byte. byte == dot) text)

-- the keys of a version: the number of its end `v`, the parts between the dots before its ends, the number
-- of its end `p`, and the whole text
pub record VersionKey : Type 0 where
  pub epoch : Option ℕ
  pub parts : List PartKey
  pub revision : Option ℕ
  pub text : List ℕ

-- the keys of a version's text: the end `v` is taken off first, then the end `p`
abbrev pub version_key : List ℕ → VersionKey
version_key text =
    let epoch = ended_by small_v text in
    let revision = ended_by small_p epoch.before in
    record {
      epoch = epoch.number;
      parts = part_keys revision.before;
      revision = revision.number;
      text = text;
    }

-- numbers by size, and no number before any number
abbrev pub number_cmp : Option ℕ → Option ℕ → Ordering
number_cmp = option_cmp nat_cmp

-- texts by their bytes
abbrev pub text_cmp : List ℕ → List ℕ → Ordering
text_cmp = slice_cmp nat_cmp

-- the rank of letters: `alpha`, `beta`, `pre` and `rc` come before a release, which has no letters, and
-- others after it
abbrev pub letters_rank : List ℕ → ℕ
letters_rank letters =
    if bytes_eq letters (codes "alpha") then 0
    else if bytes_eq letters (codes "beta") then 1
    else if bytes_eq letters (codes "pre") then 2
    else if bytes_eq letters (codes "rc") then 3
    else if bytes_eq letters [] then 4
    else 5

-- letters by their rank, and then by their bytes
abbrev pub letters_cmp : List ℕ → List ℕ → Ordering
letters_cmp = then_cmp (on letters_rank nat_cmp) text_cmp

-- parts by their keys, one after another
abbrev pub part_cmp : PartKey → PartKey → Ordering
part_cmp =
    then_cmp (on (λ (key : PartKey). key.number) number_cmp)
    (then_cmp (on (λ (key : PartKey). key.letters) letters_cmp)
    (then_cmp (on (λ (key : PartKey). key.second) number_cmp)
    (on (λ (key : PartKey). key.rest) text_cmp)))

-- versions by their keys, one after another; in the lists of parts the first difference decides, and a
-- missing part is before one that is there
abbrev pub key_cmp : VersionKey → VersionKey → Ordering
key_cmp =
    then_cmp (on (λ (key : VersionKey). key.epoch) number_cmp)
    (then_cmp (on (λ (key : VersionKey). key.parts) (slice_cmp part_cmp))
    (then_cmp (on (λ (key : VersionKey). key.revision) number_cmp)
    (on (λ (key : VersionKey). key.text) text_cmp)))

-- how two versions compare
abbrev pub version_cmp : List ℕ → List ℕ → Ordering
version_cmp = on version_key key_cmp

-- a text is cut behind its first part, if there is more than that
abbrev pub CutsFirstPart : Bor (List ℕ) × Option (Bor (List ℕ)) → List ℕ → Type 0
CutsFirstPart result text =
    MatchOption result.1 (part_keys text ≡ part_key result.0.now ∷ [])
    (λ behind. part_keys text ≡ part_key result.0.now ∷ part_keys behind.now)
