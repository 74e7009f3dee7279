-- Rows that are filled in.
use Rattle.std.specs.Prelude.{◌≡◌, ℕ, if◌then◌else◌, Bool, List, Option, Some}
use Rattle.std.specs.List.{list_any}
use Rattle.std.specs.Str.{bytes_eq}
use Rattle.mk_paths.specs.World.{World}
use Rattle.port_index.specs.PathOutcomes.{PathOutcome, outcome_at}

-- a path is one of these
abbrev pub is_one_of : List ℕ → List (List ℕ) → Bool
is_one_of path paths = list_any (λ one. bytes_eq one path) paths

-- each of these paths has its row now, and each other path has the row that it had, or none as before
pub record Fills (world : World) (paths : List (List ℕ)) (old new : List ℕ → Option PathOutcome) : Type 0 where
  pub filled : (path : List ℕ) → new path ≡ (if is_one_of path paths then Some (outcome_at world path) else old path)
