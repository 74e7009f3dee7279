-- Each request is told its reply within a number of its tenant's own turns.
use Rattle.std.specs.Prelude.{◌≡◌, ℕ, ◌+◌, ◌^◌, ◌<◌, ◌==◌, List, [], ◌∷◌, ◌++◌, length, Some, if◌then◌else◌}
use Rattle.mk_paths.specs.World.{World}
use Rattle.plain_service.specs.AnswerCosts.{most_turns}
use Rattle.ports_core.specs.declared.event.Event.{Event}
use Rattle.ports_core.specs.declared.event.Event.TheVariants.{Turn}
use Rattle.ports_core.specs.declared.queue.QueuedRequest.{QueuedRequest}
use Rattle.ports_core.specs.Effects.{Effect}
use Rattle.ports_core.specs.Answers.{plain_request_of}
use Rattle.ports_core.specs.Sharing.{Sizes}
use Rattle.ports_core.specs.State.{State, new_state, slice_of, had_at}
use Rattle.ports_core.specs.Runs.{Run}
use Rattle.ports_core.specs.Plainly.{told_to}

-- 1 for a turn of the tenant, and 0 for any other event
abbrev pub turn_in : ℕ → Event → ℕ
turn_in t (Turn u) = if u == t then 1 else 0
turn_in t event = 0

-- how many of the events are turns of the tenant
abbrev pub own_turns : ℕ → List Event → ℕ
own_turns t [] = 0
own_turns t (event ∷ events) = turn_in t event + own_turns t events

-- the turns that a tenant's first request has had
abbrev pub turns_had : ℕ → State → ℕ
turns_had t state = (had_at t state).turns

-- A run from any state in which a tenant's first request has had fewer turns than its bound over the tenant's world. If
-- no reply is told to the tenant in the run, these turns and the tenant's own turns in the run are fewer together. So
-- its reply is told in the own turn with which they are as many, or before, whatever else happens.
abbrev pub EachRequestIsToldInTime : Type 0
EachRequestIsToldInTime =
    (t : ℕ) (world : World) (first : QueuedRequest) (rest : List QueuedRequest)
    (events : List Event) (steps : List Effect) (old new : State)
    → slice_of t old ≡ Some (world, first ∷ rest) → turns_had t old < most_turns world (plain_request_of first.request)
    → Run old events steps new → told_to t steps ≡ [] → turns_had t old + own_turns t events < 2 ^ 64
    → turns_had t old + own_turns t events < most_turns world (plain_request_of first.request)

-- After each run from the beginning each tenant's first request has had fewer turns than its bound.
abbrev pub EachFirstHasTurnsLeft : Type 0
EachFirstHasTurnsLeft =
    (keys : List (List ℕ)) (sizes : Sizes) (events : List Event) (steps : List Effect) (service : State)
    (t : ℕ) (world : World) (first : QueuedRequest) (rest : List QueuedRequest)
    → Run (new_state keys sizes) events steps service → slice_of t service ≡ Some (world, first ∷ rest)
    → turns_had t service < most_turns world (plain_request_of first.request)

-- In a run of these events from the beginning each request is told its reply in time. Take any events of it that follow
-- one another, in which nothing is told to a tenant of which a request waits first as they begin. The turns that this had
-- before and the tenant's own turns among these events are fewer together than the request's bound.
abbrev pub IsToldInTime : List (List ℕ) → Sizes → List Event → Type 0
IsToldInTime keys sizes events =
    (t : ℕ) (world : World) (first : QueuedRequest) (rest : List QueuedRequest)
    (before during after : List Event) (told_before told_during : List Effect) (mid later : State)
    → events ≡ before ++ during ++ after → Run (new_state keys sizes) before told_before mid → Run mid during told_during later
    → slice_of t mid ≡ Some (world, first ∷ rest) → told_to t told_during ≡ []
    → turns_had t mid + own_turns t during < most_turns world (plain_request_of first.request)

-- so it is for all events that memory has room for
abbrev pub EachRunIsToldInTime : Type 0
EachRunIsToldInTime =
    (keys : List (List ℕ)) (sizes : Sizes) (events : List Event) → length events < 2 ^ 64 → IsToldInTime keys sizes events
