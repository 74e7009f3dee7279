-- What becomes of a cache that is used, as far as a service sees it.
use Rattle.std.specs.Prelude.{◌≡◌, ◌≤◌, ◌^◌, ◌-◌, ℕ, min}
use Rattle.eval_cache.specs.Cache.{CacheValue}

-- A count doesn't fall. It goes no higher than the greatest number of 64 bits.
abbrev pub StaysUp : ℕ → ℕ → Type 0
StaysUp old new = min old (2 ^ 64 - 1) ≤ new

-- Some of what is kept was used, or nothing. The sizes stay, and neither count falls.
pub record UsesCache (old new : CacheValue) : Type 0 where
  pub sizes : new.sizes ≡ old.sizes
  pub parses : StaysUp old.counts.parses new.counts.parses
  pub evals : StaysUp old.counts.evals new.counts.evals
