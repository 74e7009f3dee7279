-- What evaluations and values cost at most.
use Rattle.std.specs.Prelude.{◌≤◌, ℕ, List, Option, Result, Ok, Err}
use Rattle.mk_base.specs.declared.budget.TheConstants.{UNITS}
use Rattle.mk_env.specs.Texts.{Variables}
use Rattle.mk_paths.specs.World.{World}
use Rattle.mk_eval.specs.Expanded.{Expanded, value_cost}
use Rattle.mk_eval.specs.Meaning.{means, value_of_variable}
use Rattle.mk_eval.specs.Agreement.{cost_of}
use Rattle.mk_eval.specs.declared.outcome.Failed.{Failed}

-- the units of a value, up to its fault if it has one
abbrev pub value_units : Result (Option Expanded) Failed → ℕ
value_units (Ok value) = value_cost value
value_units (Err failed) = failed.cost

-- each evaluation costs at most 50,000 units, and so does each value of a variable after it
pub record CostFew : Type 0 where
  pub evaluations : (world : World) (name : List ℕ) (flavors : Option (List (List ℕ)))
      → cost_of (means world name flavors) ≤ UNITS
  pub values : (variables : Variables) (makefile name : List ℕ) → value_units (value_of_variable variables makefile name) ≤ UNITS
