use Rattle.std.specs.Prelude.{◌≡◌, ◌⊎◌, ℕ, List}
use Rattle.mk_base.specs.declared.stops.PureStop.{PureStop}
use Rattle.mk_base.specs.declared.stops.PureStop.TheVariants as pure
use Rattle.mk_base.specs.declared.stops.Stop.{Stop}
use Rattle.mk_base.specs.declared.stops.Stop.TheVariants as stops
use Rattle.mk_base.specs.declared.faults.FaultKind.{FaultKind}
use Rattle.mk_base.specs.FaultAt.{FaultAt, fault_at}
use Rattle.refusals.specs.Refused.{refused}

-- The stop, with its place added if it is a fault. A fault may also become out of memory, since the name
-- needs memory.
abbrev pub IsBlamed : List ℕ → ℕ → Stop FaultKind → Stop FaultAt → Type 0
IsBlamed name line (stops.Fault kind) stop = (stop ≡ stops.Fault (fault_at kind name line)) ⊎ (stop ≡ stops.Memory refused)
IsBlamed name line (stops.Store refusal) stop = stop ≡ stops.Store refusal
IsBlamed name line (stops.Memory refused) stop = stop ≡ stops.Memory refused

-- the same for work that looks at no file
abbrev pub IsBlamedPurely : List ℕ → ℕ → PureStop FaultKind → PureStop FaultAt → Type 0
IsBlamedPurely name line (pure.Fault kind) stop = (stop ≡ pure.Fault (fault_at kind name line)) ⊎ (stop ≡ pure.Memory refused)
IsBlamedPurely name line (pure.Memory refused) stop = stop ≡ pure.Memory refused
