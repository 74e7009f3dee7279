-- The variables of loops with their words.
use Rattle.std.specs.Prelude.{ℕ, Bool, true, false, if◌then◌else◌, List, [], ◌∷◌, Option, Some, None}
use Rattle.std.specs.List.{list_any}
use Rattle.std.specs.Str.{bytes_eq}
use Rattle.mk_ref.specs.Atoms.{TextAtom, Byte, EscapedDollar, Reference, atoms_of}

-- the variables of the loops around a line, each with its word in this iteration; those of the innermost
-- loop come first
abbrev pub LoopWords : Type 0
LoopWords = List (List ℕ × List ℕ)

-- the word of a variable; if two variables have one name, the first counts
abbrev pub word_of : LoopWords → List ℕ → Option (List ℕ)
word_of [] name = None
word_of ((variable, word) ∷ words) name = if bytes_eq name variable then Some word else word_of words name

-- a reference among the atoms of a text
abbrev pub is_reference : TextAtom → Bool
is_reference (Byte b) = false
is_reference EscapedDollar = false
is_reference (Reference written name modifiers) = true

-- whether there is a reference in a text
abbrev pub has_whole_reference : List ℕ → Bool
has_whole_reference text = list_any is_reference (atoms_of text)

-- The word of the variable that a reference with this name names. The name counts as it is written, and a
-- name with a reference in it isn't the name of a loop's variable.
abbrev pub word_named : LoopWords → List ℕ → Option (List ℕ)
word_named words name = if has_whole_reference name then None else word_of words name
