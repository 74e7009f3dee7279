-- What the tenants share: the parses and evaluations that are kept to be used again.
use Rattle.std.specs.Prelude.{◌≡◌, ℕ, ◌≤◌}
use Rattle.ports_core.specs.declared.counts.Counts.{Counts}
use Rattle.ports_core.specs.declared.keys.Config.{Config}

-- how many parses may be kept, and how many keys with their evaluations
pub record Sizes : Type 0 where
  pub parses : ℕ
  pub evals : ℕ

-- the sizes, and how often a parse or an evaluation that was kept was used
pub record Sharing : Type 0 where
  pub sizes : Sizes
  pub counts : Counts

-- the sizes that a config asks for
abbrev pub sizes_of : Config → Sizes
sizes_of config = record { parses = config.parses; evals = config.evals }

-- nothing was used yet
abbrev pub unused : Sizes → Sharing
unused sizes = record { sizes = sizes; counts = record { parses = 0; evals = 0 } }

-- What is kept was used some times, or not at all. The sizes stay, and neither count falls.
pub record IsUsed (old new : Sharing) : Type 0 where
  pub sizes : new.sizes ≡ old.sizes
  pub parses : old.counts.parses ≤ new.counts.parses
  pub evals : old.counts.evals ≤ new.counts.evals
