-- Values made of words: the words joined by single spaces, within the limit of a text.
use Rattle.std.specs.Prelude.{◌≡◌, ◌≤◌, ℕ, Bool, true, false, nat_le, List, [], ◌∷◌, ◌++◌, length, filter, Option}
use Rattle.std.specs.Prelude.{Some, None, if◌then◌else◌, String, string_bytes}
use Rattle.std.specs.declared.alloc.Global.{Global}
use Rattle.std.specs.List.{join_with_byte}
use Rattle.general_facts.specs.Ascii.{space}
use Rattle.mk_text.specs.declared.limits.TheConstants.{TEXT_LIMIT}
use Rattle.mk_text.specs.TextLimit.{IsTooLong}
use Rattle.mk_text.specs.declared.limits.TextFault.{TextFault}
use Rattle.mk_text.specs.declared.limits.TextFault.TheVariants as faults
use Rattle.refusals.specs.Refused.{refused}

-- whether a text isn't empty
abbrev pub has_bytes : List ℕ → Bool
has_bytes [] = false
has_bytes (b ∷ rest) = true

-- the words joined by single spaces; those that became empty are left out
abbrev pub joined : List (List ℕ) → List ℕ
joined words = join_with_byte space (filter has_bytes words)

-- a text, unless it is longer than any text may be
abbrev pub within_limit : List ℕ → Option (List ℕ)
within_limit text = if nat_le (length text) TEXT_LIMIT then Some text else None

-- why a text wasn't made: it would be too long, or memory ran out, which says nothing about the text
abbrev pub IsUnmade : {X : Type 0} → Option X → TextFault → Type 0
IsUnmade made faults.Length = made ≡ None
IsUnmade made (faults.Memory _) = Unit {0}

-- words that are joined, with one more at their end
abbrev pub with_word : List ℕ → List ℕ → List ℕ
with_word made [] = made
with_word [] (b ∷ word) = b ∷ word
with_word (m ∷ made) (b ∷ word) = m ∷ made ++ space ∷ b ∷ word

-- a text was made that isn't too long
abbrev pub IsMadeText : List ℕ → String Global → Type 0
IsMadeText text made = (length text ≤ TEXT_LIMIT) × (string_bytes made ≡ text)

-- why a text wasn't made, if there is one to make; if there is none, memory ran out
abbrev pub IsOverlong : Option (List ℕ) → TextFault → Type 0
IsOverlong None fault = fault ≡ faults.Memory refused
IsOverlong (Some text) fault = IsTooLong text fault
