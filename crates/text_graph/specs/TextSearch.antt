-- What a search over arrows finds: where the arrows from each text lead, and which texts are found.
use Rattle.std.specs.Prelude.{◌≡◌, ◌↔◌, ℕ, Contains, true, if◌then◌else◌, Bool, List, [], ◌∷◌, ◌++◌, map, filter, fold}
use Rattle.std.specs.List.{list_any}
use Rattle.std.specs.Str.{bytes_eq}
use Rattle.text_graph.specs.Arrows.{ArrowValue, Way, ends_of}

-- a text is one of these
abbrev pub is_among : List ℕ → List (List ℕ) → Bool
is_among text texts = list_any (bytes_eq text) texts

-- the same arrow the other way round
abbrev pub turned : ArrowValue → ArrowValue
turned arrow = record { from = arrow.to; to = arrow.from }

abbrev pub all_turned : List ArrowValue → List ArrowValue
all_turned arrows = map turned arrows

-- where the arrows from a text lead
abbrev pub next_texts : List ArrowValue → List ℕ → List (List ℕ)
next_texts arrows text = ends_of (filter (λ (arrow : ArrowValue). bytes_eq text arrow.from) arrows)

-- the texts with one more, unless it is one of them
abbrev pub added : List (List ℕ) → List ℕ → List (List ℕ)
added texts text = if is_among text texts then texts else texts ++ text ∷ []

abbrev pub all_added : List (List ℕ) → List (List ℕ) → List (List ℕ)
all_added texts more = fold added texts more

-- a text is one of the starts, or is reached from one of them
pub record IsFrom (starts : List (List ℕ)) (arrows : List ArrowValue) (text : List ℕ) : Type 0 where
  pub start : List ℕ
  pub is_start : Contains starts start
  pub way : Way arrows start text

-- the texts that a search found are exactly the starts and those that are reached from them
abbrev pub FindsAll : List (List ℕ) → List ArrowValue → List (List ℕ) → Type 0
FindsAll starts arrows texts = (text : List ℕ) → (is_among text texts ≡ true) ↔ IsFrom starts arrows text
