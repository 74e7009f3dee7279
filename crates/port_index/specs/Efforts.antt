-- How much work it takes to learn what paths lead to: how many makefiles are evaluated, and how many units
-- that costs.
use Rattle.std.specs.Prelude.{ℕ, if◌then◌else◌, Bool, true, false, List, filter, Option, Some, is_none, sum_by}
use Rattle.text_parts.specs.Order.{in_order}
use Rattle.mk_paths.specs.World.{World}
use Rattle.port_index.specs.PathOutcomes.{PathOutcome, Absent, Faulty, Port, BadPort, Lists, BadList, FlavoredList, Other}
use Rattle.port_index.specs.PathOutcomes.{outcome_at, cost_at}

-- there is a makefile, which is evaluated
abbrev pub is_there : PathOutcome → Bool
is_there Absent = false
is_there (Faulty fault) = true
is_there (Port port) = true
is_there (BadPort fault) = true
is_there (Lists words) = true
is_there (BadList fault) = true
is_there FlavoredList = true
is_there Other = true

-- a path's makefile is there
abbrev pub has_makefile : World → List ℕ → Bool
has_makefile world path = is_there (outcome_at world path)

-- what is known of each path: what its row says, and that nothing is there if it has no makefile
abbrev pub decided : World → (List ℕ → Option PathOutcome) → List ℕ → Option PathOutcome
decided world entries path = if has_makefile world path then entries path else Some Absent

-- how many makefiles are evaluated for what a path leads to: one, if there is one
abbrev pub evaluations_for : PathOutcome → ℕ
evaluations_for outcome = if is_there outcome then 1 else 0

-- how many makefiles are evaluated for a path
abbrev pub evaluations_at : World → List ℕ → ℕ
evaluations_at world path = evaluations_for (outcome_at world path)

-- how many are evaluated for these paths
abbrev pub evaluations_over : World → List (List ℕ) → ℕ
evaluations_over world paths = sum_by (evaluations_at world) paths

-- how many units these paths cost
abbrev pub cost_over : World → List (List ℕ) → ℕ
cost_over world paths = sum_by (cost_at world) paths

-- the paths that have no row yet, each once
abbrev pub lacking : (List ℕ → Option PathOutcome) → List (List ℕ) → List (List ℕ)
lacking entries paths = filter (λ path. is_none (entries path)) (in_order paths)
