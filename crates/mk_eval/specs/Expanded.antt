use Rattle.std.specs.Prelude.{ℕ, List, Option, Some, None}

-- the text of a variable, and the units that it cost
pub record Expanded : Type 0 where
  pub text : List ℕ
  pub cost : ℕ

-- the units that a value cost; one that isn't there costs none
abbrev pub value_cost : Option Expanded → ℕ
value_cost None = 0
value_cost (Some value) = value.cost
