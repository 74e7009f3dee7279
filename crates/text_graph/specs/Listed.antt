-- The texts that are reached over arrows, and those that reach a text, as lists.
use Rattle.std.specs.Prelude.{ℕ, zero, suc, List, [], ◌∷◌, ◌++◌, filter, length}
use Rattle.text_parts.specs.Order.{in_order}
use Rattle.text_graph.specs.Arrows.{ArrowValue, beginnings_of, ends_of}
use Rattle.text_graph.specs.Reach.{IsReached, Reaches, ListsJust}
use Rattle.text_graph.specs.TextSearch.{is_among}

-- where the arrows lead that begin at one of these texts
abbrev pub next_to : List ArrowValue → List (List ℕ) → List (List ℕ)
next_to arrows texts = ends_of (filter (λ (arrow : ArrowValue). is_among arrow.from texts) arrows)

-- these texts, and those that are reached from them over at most this many arrows
unfoldable pub within : ℕ → List ArrowValue → List (List ℕ) → List (List ℕ)
within zero arrows texts = texts
within (suc count) arrows texts = texts ++ within count arrows (next_to arrows texts)

-- the texts that are reached over a first arrow and maybe further ones; no way need be longer than there
-- are arrows
abbrev pub reached_list : List ArrowValue → List ArrowValue → List (List ℕ)
reached_list first arrows = in_order (within (length arrows) arrows (ends_of first))

-- the texts from which an arrow, and maybe further ones, lead to a text
abbrev pub reaching_list : List ArrowValue → List ℕ → List (List ℕ)
reaching_list arrows goal =
    in_order (beginnings_of
    (filter (λ (arrow : ArrowValue). is_among goal (within (length arrows) arrows (arrow.to ∷ []))) arrows))

-- these lists have exactly the texts that are reached, and exactly those that reach the text
abbrev pub ReachedAreListed : Type 0
ReachedAreListed = (first arrows : List ArrowValue) → ListsJust (IsReached first arrows) (reached_list first arrows)

abbrev pub ReachingAreListed : Type 0
ReachingAreListed = (arrows : List ArrowValue) (goal : List ℕ) → ListsJust (Reaches arrows goal) (reaching_list arrows goal)
