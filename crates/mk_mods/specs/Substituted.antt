-- What `:S` makes of words (make(1), "VARIABLES": `:S/old_string/new_string/[1g]`).
use Rattle.std.specs.Prelude.{ℕ, ◌-◌, zero, suc, Bool, ◌&&◌, nat_eq, List, [], ◌∷◌, ◌++◌, length, take, drop, map}
use Rattle.std.specs.Prelude.{unwrap_or, Option, Some, None, option_map, if◌then◌else◌}
use Rattle.std.specs.Str.{bytes_eq}
use Rattle.std.specs.List.{starts_with, ends_with, flat_map}
use Rattle.mk_mods.specs.Actions.{Symbol, Byte, Whole, Reference, Replacement}

-- the text that symbols give, among which `Whole` means the old text
abbrev pub symbol_text : List ℕ → Symbol → List ℕ
symbol_text old (Byte b) = b ∷ []
symbol_text old Whole = old
symbol_text old (Reference source) = source

abbrev pub text_of : List ℕ → List Symbol → List ℕ
text_of old symbols = flat_map (symbol_text old) symbols

-- a word with new in place of old at the leftmost place of old; None if old is nowhere in it
abbrev pub first_replaced : List ℕ → List ℕ → List ℕ → Option (List ℕ)
first_replaced old new [] = None
first_replaced old new (b ∷ rest) =
    if starts_with nat_eq (b ∷ rest) old then Some (new ++ drop (length old) (b ∷ rest))
    else option_map (λ made. b ∷ made) (first_replaced old new rest)

-- a word with new in place of old at each place, from the left, that doesn't overlap the one before; this
-- many bytes of the one before are still to pass
abbrev pub all_replaced : List ℕ → List ℕ → ℕ → List ℕ → List ℕ
all_replaced old new left [] = []
all_replaced old new (suc left) (b ∷ rest) = all_replaced old new left rest
all_replaced old new zero (b ∷ rest) =
    if starts_with nat_eq (b ∷ rest) old then new ++ all_replaced old new (length old - 1) rest
    else b ∷ all_replaced old new zero rest

-- a word with new in place of old, at the first place or at every one; an old text that is empty is nowhere
abbrev pub somewhere_replaced : Bool → List ℕ → List ℕ → List ℕ → Option (List ℕ)
somewhere_replaced every [] new word = None
somewhere_replaced every (o ∷ old) new word =
    if every then option_map (λ _. all_replaced (o ∷ old) new zero word) (first_replaced (o ∷ old) new word)
    else first_replaced (o ∷ old) new word

-- a word with new in place of old: the whole of it, at its beginning, at its end, or without an anchor;
-- None if it doesn't match
abbrev pub replaced : Replacement → List ℕ → List ℕ → List ℕ → Option (List ℕ)
replaced s old new word =
    if s.starts && s.ends then (if bytes_eq word old then Some new else None)
    else if s.starts then (if starts_with nat_eq word old then Some (new ++ drop (length old) word) else None)
    else if s.ends then (if ends_with nat_eq word old then Some (take (length word - length old) word ++ new) else None)
    else somewhere_replaced s.every old new word

-- the words, each changed if it matches
abbrev pub each_changed : (List ℕ → Option (List ℕ)) → List (List ℕ) → List (List ℕ)
each_changed change words = map (λ word. unwrap_or (change word) word) words

-- a word before others: itself and the others changed later, or itself changed and the others as they are
abbrev pub changed_here : List ℕ → List (List ℕ) → List (List ℕ) → Option (List ℕ) → List (List ℕ)
changed_here word words later None = word ∷ later
changed_here word words later (Some made) = made ∷ words

-- the words, the first that matches changed
abbrev pub first_changed : (List ℕ → Option (List ℕ)) → List (List ℕ) → List (List ℕ)
first_changed change [] = []
first_changed change (word ∷ words) = changed_here word words (first_changed change words) (change word)

-- the words of a value with new in place of old
abbrev pub substituted : Replacement → List ℕ → List ℕ → List (List ℕ) → List (List ℕ)
substituted s old new words =
    if s.once then first_changed (replaced s old new) words else each_changed (replaced s old new) words
