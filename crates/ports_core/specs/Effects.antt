-- What events do that a caller sees.
use Rattle.std.specs.Prelude.{ℕ, List}
use Rattle.ports_core.specs.declared.event.Told.{Told}

-- what an event told, and the bytes that it took off its connection
pub record Effect : Type 0 where
  pub told : Told
  pub sent : List ℕ
