-- Arrows from text to text, and the ways over them. A text is its bytes.
use Rattle.std.specs.Prelude.{◌≡◌, ℕ, List, [], ◌∷◌, map, Contains, All}
use Rattle.text_graph.specs.declared.arrow.Arrow.{Arrow}

pub record ArrowValue : Type 0 where
  pub from : List ℕ
  pub to : List ℕ

-- the arrows between the texts that references point to
abbrev pub arrow_seen : Arrow → ArrowValue
arrow_seen arrow = record { from = arrow.from.now; to = arrow.to.now }

abbrev pub arrows_seen : List Arrow → List ArrowValue
arrows_seen arrows = map arrow_seen arrows

-- the texts where arrows begin, and those where they end
abbrev pub beginnings_of : List ArrowValue → List (List ℕ)
beginnings_of arrows = map (λ (arrow : ArrowValue). arrow.from) arrows

abbrev pub ends_of : List ArrowValue → List (List ℕ)
ends_of arrows = map (λ (arrow : ArrowValue). arrow.to) arrows

-- arrows, one after another, lead from a text to a text: each begins where the one before it ended; an
-- empty list leads from a text to itself
unfoldable pub Lead : List ArrowValue → List ℕ → List ℕ → Type 0
Lead [] from to = from ≡ to
Lead (arrow ∷ way) from to = (arrow.from ≡ from) × Lead way arrow.to to

-- a way from a text to a text over some of these arrows, maybe none
pub record Way (arrows : List ArrowValue) (from to : List ℕ) : Type 0 where
  pub way : List ArrowValue
  pub are_arrows : All (Contains arrows) way
  pub lead : Lead way from to
