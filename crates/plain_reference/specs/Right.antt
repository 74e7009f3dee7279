-- Rows that are right, and rows that stay.
use Rattle.std.specs.Prelude.{◌≡◌, ℕ, List, Option, Some}
use Rattle.mk_paths.specs.World.{World}
use Rattle.port_index.specs.PathOutcomes.{PathOutcome, outcome_at}

-- each row says what its path leads to
abbrev pub AreOutcomes : World → (List ℕ → Option PathOutcome) → Type 0
AreOutcomes world entries = (path : List ℕ) (row : PathOutcome) → entries path ≡ Some row → row ≡ outcome_at world path

-- each row that was there is still there
pub record Stay (old new : List ℕ → Option PathOutcome) : Type 0 where
  pub stay : (path : List ℕ) (row : PathOutcome) → old path ≡ Some row → new path ≡ Some row
