-- What the parts of a round tell their caller of the course that they took.
use Rattle.std.specs.Prelude.{◌≡◌, ℕ, Bool, length, take, Result, IfOk, Vec}
use Rattle.std.specs.declared.alloc.Global.{Global}
use Rattle.ports_core.specs.declared.event.Event.{Event}
use Rattle.ports_core.specs.State.{State, connections_of, keys_of}
use Rattle.ports_serve.specs.Calls.{Call}
use Rattle.ports_serve.specs.Rounds.{Course, Each, Goes, HappensOn, HearsPiece, IsRound, IsServed, ReadsOnce}
use Rattle.ports_serve.specs.Rounds.{brings, is_idle, numbers_from}

-- a course of some kind, and whether it brings something
abbrev pub Brought : Bool → (State → Course → State → Type 0) → State → Course → State → Type 0
Brought came P old course new = P old course new × (came ≡ brings course)

-- a course of some kind, and whether the caller is idle after it
abbrev pub Rested : Bool → (State → Course → State → Type 0) → State → Course → State → Type 0
Rested idle P old course new = P old course new × (idle ≡ is_idle course new)

module _ {W : Type 0} (After : W → Call → W → Type 0) where
  -- a wire and a service went through a course of some kind, and it is told whether the course brings something
  abbrev pub GoesBringing : Bool → (State → Course → State → Type 0) → W → State → W → State → Type 0
  GoesBringing came P old_wire old new_wire new = Goes After (Brought came P) old_wire old new_wire new

  -- the same for an event that happened
  abbrev pub GoesByEvent : Bool → Event → W → State → W → State → Type 0
  GoesByEvent came event old_wire old new_wire new = Goes After (Brought came (HappensOn event)) old_wire old new_wire new

  -- the same for a read of a connection
  abbrev pub GoesByRead : Bool → ℕ → W → State → W → State → Type 0
  GoesByRead came c old_wire old new_wire new = Goes After (Brought came (ReadsOnce c)) old_wire old new_wire new

  -- the same for each connection that is open before
  abbrev pub GoesOver : Bool → (ℕ → State → Course → State → Type 0) → W → State → W → State → Type 0
  GoesOver came P old_wire old new_wire new =
      Goes After (Brought came (Each P (connections_of old))) old_wire old new_wire new

  -- the same for each tenant
  abbrev pub GoesOverTenants : Bool → (ℕ → State → Course → State → Type 0) → W → State → W → State → Type 0
  GoesOverTenants came P old_wire old new_wire new =
      Goes After (Brought came (Each P (numbers_from 0 (length (keys_of old))))) old_wire old new_wire new

  -- a round was taken whose caller was idle or wasn't, and it is told whether the caller is idle after it
  abbrev pub GoesRound : (rested idle : Bool) → W → State → W → State → Type 0
  GoesRound rested idle old_wire old new_wire new = Goes After (Rested rested (IsRound idle)) old_wire old new_wire new

  -- the first bytes of a buffer, so many, came as a piece of a connection's stream
  abbrev pub HearsFront : Bool → ℕ → ℕ → Vec ℕ Global → W → State → W → State → Type 0
  HearsFront came conn count buffer old_wire old new_wire new =
      Goes After (Brought came (HearsPiece conn (take count buffer.items))) old_wire old new_wire new

-- where a function succeeds, it served a service so many rounds over a wire
abbrev pub IsServedOver : {W E : Type 0} → (W → Call → W → Type 0) → Result State E → ℕ → W → State → W → Type 0
IsServedOver After result rounds old_wire old new_wire =
    IfOk result (λ served. IsServed After rounds old_wire old new_wire served)
