-- Which texts are reached over arrows, and which reach a text.
use Rattle.std.specs.Prelude.{◌≡◌, ◌↔◌, ℕ, List, Contains}
use Rattle.std.specs.Cmp.Lexicographic.{slice_cmp}
use Rattle.std.specs.List.Sorted.{IsStrictlySortedBy}
use Rattle.std.specs.Ordering.{nat_cmp}
use Rattle.text_graph.specs.Arrows.{ArrowValue, Way}

-- a text is reached over one or more arrows: the first arrow is one of `first`, and each other is one of
-- `arrows`
pub record IsReached (first arrows : List ArrowValue) (text : List ℕ) : Type 0 where
  pub start : ArrowValue
  pub is_first : Contains first start
  pub further : Way arrows start.to text

-- a text reaches another over one or more of these arrows
pub record Reaches (arrows : List ArrowValue) (goal text : List ℕ) : Type 0 where
  pub start : ArrowValue
  pub is_arrow : Contains arrows start
  pub begins : start.from ≡ text
  pub further : Way arrows start.to goal

-- exactly the texts of which something holds, in the order of their bytes, each once
pub record ListsJust (P : List ℕ → Type 0) (texts : List (List ℕ)) : Type 0 where
  pub in_order : IsStrictlySortedBy (slice_cmp nat_cmp) texts
  pub just : (text : List ℕ) → Contains texts text ↔ P text
