-- The slots of texts, and what is kept of them there.
use Rattle.std.specs.Prelude.{ℕ, ◌+◌, ◌*◌, ◌/◌, ◌%◌, ◌^◌, fold, get_or, List, [], ◌∷◌, Option, None}
use Rattle.std.specs.Int.{w32, from_le_bytes}
use Rattle.std.specs.BTreeMap as tree
use Rattle.std.specs.Cmp.Lexicographic.{slice_cmp}
use Rattle.std.specs.Ordering.{nat_cmp}
use Rattle.text_graph.specs.declared.numbers.Numbers.{Numbers}
use Rattle.text_graph.specs.declared.numbers.TheConstants.{SLOTS, FACTOR}

-- a mark, spread with one number more
abbrev pub spread : ℕ → ℕ → ℕ
spread mark number = (mark + number) % 2 ^ 64 * FACTOR % 2 ^ 64

-- a mark, spread with all of these bytes: with four at a time, and then with each that is left
unfoldable pub spread_with_bytes : ℕ → List ℕ → ℕ
spread_with_bytes mark (a ∷ b ∷ c ∷ d ∷ rest) = spread_with_bytes (spread mark (from_le_bytes w32 (a ∷ b ∷ c ∷ d ∷ []))) rest
spread_with_bytes mark (a ∷ b ∷ c ∷ []) = fold spread mark (a ∷ b ∷ c ∷ [])
spread_with_bytes mark (a ∷ b ∷ []) = fold spread mark (a ∷ b ∷ [])
spread_with_bytes mark (a ∷ []) = fold spread mark (a ∷ [])
spread_with_bytes mark [] = mark

-- the slot of a text
unfoldable pub slot_of : List ℕ → ℕ
slot_of text = spread_with_bytes 0 text / 2 ^ 48 % SLOTS

-- the number of the first text in the slot of this one, if one was met
abbrev pub first_in : Numbers → List ℕ → Option ℕ
first_in numbers text = get_or numbers.first.items (slot_of text) None

-- the number of this text among those that weren't the first of their slots
abbrev pub other_of : Numbers → List ℕ → Option ℕ
other_of numbers text = tree.get_by (λ key. slice_cmp nat_cmp text key.now) numbers.others
