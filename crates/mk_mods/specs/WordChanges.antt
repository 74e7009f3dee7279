-- What modifiers make of a word (make(1), "VARIABLES": `:R`, `:E`, `:H`, `:T`, `:L`, `:U`, and
-- `:old_string=new_string`).
use Rattle.std.specs.Prelude.{ℕ, ◌==◌, ◌-◌, nat_eq, List, [], ◌∷◌, ◌++◌, length, take, map, Option, Some, None, if◌then◌else◌}
use Rattle.std.specs.List.{ends_with}
use Rattle.std.specs.Option.{option_map_or}
use Rattle.std.specs.Char.{to_ascii_lowercase, to_ascii_uppercase}
use Rattle.general_facts.specs.Ascii.{dot, slash}
use Rattle.mk_mods.specs.declared.modifiers.WordMap.{WordMap}
use Rattle.mk_mods.specs.declared.modifiers.WordMap.TheVariants as maps

-- what comes before and after the last `byte` in `b ∷ rest`, from what comes before and after the last one
-- in `rest`
abbrev pub around_here : ℕ → ℕ → List ℕ → Option (List ℕ × List ℕ) → Option (List ℕ × List ℕ)
around_here byte b rest None = if b == byte then Some ([], rest) else None
around_here byte b rest (Some parts) = Some (b ∷ parts.0, parts.1)

-- what comes before and after the last byte of this value in a text; None if there is none
abbrev pub around_last : ℕ → List ℕ → Option (List ℕ × List ℕ)
around_last byte [] = None
around_last byte (b ∷ rest) = around_here byte b rest (around_last byte rest)

-- a head, or a slash if that is empty
abbrev pub or_slash : List ℕ → List ℕ
or_slash [] = slash ∷ []
or_slash (b ∷ rest) = b ∷ rest

-- what a map makes of a word
abbrev pub word_change : WordMap → List ℕ → List ℕ
word_change maps.Root word = option_map_or (λ parts. parts.0) (around_last dot word) word
word_change maps.Extension word = option_map_or (λ parts. parts.1) (around_last dot word) []
word_change maps.Head word = option_map_or (λ parts. or_slash parts.0) (around_last slash word) (dot ∷ [])
word_change maps.Tail word = option_map_or (λ parts. parts.1) (around_last slash word) word
word_change maps.Lower word = map to_ascii_lowercase word
word_change maps.Upper word = map to_ascii_uppercase word

-- a word that ends in the old text has the new text there; each word ends in the empty text
abbrev pub with_suffix : List ℕ → List ℕ → List ℕ → List ℕ
with_suffix old new word = if ends_with nat_eq word old then take (length word - length old) word ++ new else word
