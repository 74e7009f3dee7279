-- Whole runs.
use Rattle.std.specs.Prelude.{◌≡◌, ℕ, List, [], ◌∷◌, take, slice_get, Some}
use Rattle.ports_core.specs.declared.event.Event.{Event}
use Rattle.ports_core.specs.declared.event.Event.TheVariants.{Wrote}
use Rattle.ports_core.specs.Effects.{Effect}
use Rattle.ports_core.specs.Connections.{count_off}
use Rattle.ports_core.specs.Tell.{spent_as_told}
use Rattle.ports_core.specs.Charges.{EventSpends, FitsTurn}
use Rattle.ports_core.specs.State.{State, IsAllowed, pending_at}
use Rattle.ports_core.specs.Steps.{Does}
use Rattle.ports_core.specs.JobChanges.{ChangesJobs}

-- the bytes that an event takes off its connection
abbrev pub sent_by : Event → State → List ℕ
sent_by (Wrote c count) state = take (count_off count (pending_at c state)) (pending_at c state)
sent_by event state = []

-- an event that may happen happens, and this is told and sent
pub record Happens (event : Event) (step : Effect) (old new : State) : Type 0 where
  pub allowed : IsAllowed event old
  pub sent : step.sent ≡ sent_by event old
  pub does : Does event step.told old new
  pub spends : EventSpends event step.told old
  pub short : FitsTurn (spent_as_told step.told)
  pub jobs : ChangesJobs event step.told old new

-- these events happen one after another, with these steps
abbrev pub Run : State → List Event → List Effect → State → Type 0
Run old [] [] new = new ≡ old
Run old (event ∷ events) (step ∷ steps) new = (mid : State) × Happens event step old mid × Run mid events steps new
Run old [] (step ∷ steps) new = ⊥
Run old (event ∷ events) [] new = ⊥

-- the event at this place may not happen
abbrev pub StopsRunAt : List Event → ℕ → State → Type 0
StopsRunAt events index state = (event : Event) × (slice_get events index ≡ Some event) × ¬ (IsAllowed event state)
