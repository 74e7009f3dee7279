-- What is spent to learn something of a world, if some evaluations may be kept already.
use Rattle.std.specs.Prelude.{◌≡◌, ◌⊎◌, ℕ, ◌-◌, ◌*◌, ◌≤◌, List, length, Option, Some, None, option_to_list}
use Rattle.turn_amounts.specs.declared.TheConstants.{MOST_CHECKS}
use Rattle.mk_paths.specs.World.{World}
use Rattle.mk_eval.specs.Meaning.{means}
use Rattle.mk_eval.specs.Agreement.{cost_of}
use Rattle.turn_amounts.specs.declared.spent.Spent.{Spent}
use Rattle.port_index.specs.PathOutcomes.{cost_at}
use Rattle.port_index.specs.Pairs.{Pair, pair_at}

-- the units that the evaluation of a makefile costs, if there is a makefile
abbrev pub evaluation_cost : World → Option Pair → ℕ
evaluation_cost world None = 0
evaluation_cost world (Some pair) = cost_of (means world pair.makefile pair.flavors)

-- how many evaluations that takes: one, if there is a makefile
abbrev pub evaluations_of : Option Pair → ℕ
evaluations_of pair = length (option_to_list pair)

-- For each of so many evaluations no more answers are checked than one look checks.
abbrev pub ChecksFew : ℕ → ℕ → Type 0
ChecksFew evaluations checks = checks ≤ MOST_CHECKS * evaluations

-- What is spent to learn what costs so many units, of which one evaluation takes some: all of them. Or the evaluation
-- was kept, as at least one answer shows that was checked; then what it takes isn't spent.
pub record SpendsOnOne (cost evaluation evaluations : ℕ) (spent : Spent) : Type 0 where
  pub few : ChecksFew evaluations spent.checks
  pub paid : (spent.units ≡ cost) ⊎ ((1 ≤ spent.checks) × (spent.units ≡ cost - evaluation))

-- what is spent to learn what costs so many units and rests on this makefile, if it is there
abbrev pub SpendsOn : World → ℕ → Option Pair → Spent → Type 0
SpendsOn world cost pair spent = SpendsOnOne cost (evaluation_cost world pair) (evaluations_of pair) spent

-- what is spent to learn what a path leads to
abbrev pub SpendsOnPath : World → List ℕ → Spent → Type 0
SpendsOnPath world path spent = SpendsOn world (cost_at world path) (pair_at world path) spent
