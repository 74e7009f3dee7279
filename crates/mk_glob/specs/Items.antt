-- The items of a pattern: what it is put together from. make(1) says that `*`, `?` and brackets match, and
-- that a backslash makes the next character plain. This project's choice, as in sh(1): `!` negates a
-- bracket, a `]` directly after the opening is a member, and a `[` that isn't closed and a last backslash
-- are themselves.
use Rattle.std.specs.Prelude.{ℕ, zero, suc, Bool, true, false, ◌==◌, ◌&&◌, not, nat_le, List, [], ◌∷◌, length, Option}
use Rattle.std.specs.Prelude.{Some, None, if◌then◌else◌}
use Rattle.std.specs.List.{list_any}
use Rattle.std.specs.Option.{option_map, unwrap_or}
use Rattle.general_facts.specs.Ascii.{bang, star, dash as dash_byte, question_mark, left_bracket, right_bracket}
use Rattle.mk_glob.specs.declared.pattern_signs.PatternSign.{PatternSign}
use Rattle.mk_glob.specs.declared.pattern_signs.PatternSign.TheVariants.{Bare, Plain}
use Rattle.mk_glob.specs.Signs.{signs_of, character, is_bare}

-- the characters from a low one up to a high one, both included; none if the low one is above the high one
pub record Range : Type 0 where
  pub low : ℕ
  pub high : ℕ

-- an item: any run of characters, also none; or one character that is among some ranges or, if negated,
-- isn't among them
pub data Item : Type 0 where
  any_run : Item
  one_of : Bool → List Range → Item

-- one character as a range
abbrev pub range_of_one : ℕ → Range
range_of_one c = record { low = c; high = c }

-- any one character: one that isn't among no ranges
abbrev pub any_one : Item
any_one = one_of true []

-- this character
abbrev pub exactly : ℕ → Item
exactly c = one_of false (range_of_one c ∷ [])

-- the members between the brackets: ranges, which have a bare `-` between two signs, and single
-- characters
abbrev pub members : List PatternSign → List Range
members [] = []
members (only ∷ []) = range_of_one (character only) ∷ []
members (first ∷ second ∷ []) = range_of_one (character first) ∷ range_of_one (character second) ∷ []
members (low ∷ dash ∷ high ∷ rest) =
    if is_bare dash_byte dash
    then record { low = character low; high = character high } ∷ members rest
    else range_of_one (character low) ∷ members (dash ∷ high ∷ rest)

-- the signs before the first bare `]`, and those after it
pub record Bracketed : Type 0 where
  pub inside : List PatternSign
  pub behind : List PatternSign

-- the same with one more sign inside, before the others
abbrev pub onto_inside : PatternSign → Bracketed → Bracketed
onto_inside sign b = record { inside = sign ∷ b.inside; behind = b.behind }

-- the first bare `]` closes
abbrev pub up_to_close : List PatternSign → Option Bracketed
up_to_close [] = None
up_to_close (sign ∷ rest) =
    if is_bare right_bracket sign then Some record { inside = []; behind = rest } else option_map (onto_inside sign) (up_to_close rest)

-- what follows the opening of a bracket: the first sign there never closes
abbrev pub bracketed : List PatternSign → Option Bracketed
bracketed [] = None
bracketed (first ∷ rest) = option_map (onto_inside first) (up_to_close rest)

-- an item, and the signs after it
pub record First : Type 0 where
  pub item : Item
  pub behind : List PatternSign

-- a closed bracket
abbrev pub closed : Bool → Bracketed → First
closed negated b = record { item = one_of negated (members b.inside); behind = b.behind }

-- the bracket that a `[` before these signs opens: a bare `!` directly after the `[` negates it; none
-- if it isn't closed
abbrev pub bracket : List PatternSign → Option First
bracket [] = None
bracket (sign ∷ rest) =
    if is_bare bang sign then option_map (closed true) (bracketed rest) else option_map (closed false) (bracketed (sign ∷ rest))

-- The item that begins with a sign, and what follows it. `*` is any run, and `?` is any one
-- character. A `[` that opens no bracket is itself, as every other sign is.
abbrev pub first_at : PatternSign → List PatternSign → First
first_at (Plain c) rest = record { item = exactly c; behind = rest }
first_at (Bare c) rest =
    if c == star then record { item = any_run; behind = rest }
    else if c == question_mark then record { item = any_one; behind = rest }
    else if c == left_bracket then unwrap_or (bracket rest) record { item = exactly c; behind = rest }
    else record { item = exactly c; behind = rest }

-- the first items of a pattern, from the left, at most this many
abbrev pub first_items : ℕ → List PatternSign → List Item
first_items zero pattern = []
first_items (suc more) [] = []
first_items (suc more) (sign ∷ rest) = let first = first_at sign rest in first.item ∷ first_items more first.behind

-- the items of a pattern: it has at most as many as it has signs
unfoldable pub items : List PatternSign → List Item
items pattern = first_items (length pattern) pattern

-- the items of a pattern's bytes
unfoldable pub items_of : List ℕ → List Item
items_of pattern = items (signs_of pattern)

-- whether a character is one of those from a low one up to a high one
abbrev pub is_within : ℕ → ℕ → ℕ → Bool
is_within low high c = nat_le low c && nat_le c high

-- whether a character is among some ranges
abbrev pub is_in_some_range : List Range → ℕ → Bool
is_in_some_range ranges c = list_any (λ range. is_within range.low range.high c) ranges

-- whether an item of one character allows this one
abbrev pub admits : Bool → List Range → ℕ → Bool
admits negated ranges c = if negated then not (is_in_some_range ranges c) else is_in_some_range ranges c
