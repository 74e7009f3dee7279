-- What a replay gives.
use Rattle.std.specs.Prelude.{◌≡◌, ℕ, ◌<◌, true, false, List, length, take}
use Rattle.ports_core.specs.declared.event.Event.{Event}
use Rattle.ports_core.specs.declared.history.ReplayFault.{ReplayFault}
use Rattle.ports_core.specs.declared.history.ReplayFault.TheVariants.{NotAllowed, New, Memory}
use Rattle.ports_core.specs.declared.service.NewFault.TheVariants as new
use Rattle.ports_core.specs.declared.keys.Config.{Config}
use Rattle.ports_core.specs.Effects.{Effect}
use Rattle.ports_core.specs.Keys.{is_fit, key_texts}
use Rattle.ports_core.specs.Sharing.{sizes_of}
use Rattle.ports_core.specs.State.{State, new_state}
use Rattle.ports_core.specs.Runs.{Run, StopsRunAt}
use Rattle.ports_core.specs.Plainly.{IsToldPlainly}
use Rattle.ports_core.specs.Conversations.{ConversesPlainly}

-- the steps are those of the events, from a service that has just begun, and the service is as they leave it
abbrev pub IsRun : Config → List Event → List Effect → State → Type 0
IsRun config events steps service = Run (new_state (key_texts config.keys.items) (sizes_of config)) events steps service

-- each tenant gets the replies that a plain service of its own would give it
abbrev pub TellsPlainly : Config → List Event → List Effect → State → Type 0
TellsPlainly config events steps service =
    (t : ℕ) → t < length config.keys.items → IsToldPlainly (key_texts config.keys.items) t events steps service

-- each connection gets, in bytes, the replies to what its stream asks, in order, as long as it isn't lost
abbrev pub ConversesOnEach : Config → List Event → List Effect → State → Type 0
ConversesOnEach config events steps service =
    (c : ℕ) → ConversesPlainly (key_texts config.keys.items) c events steps service

-- an event may not happen, and the steps are those of the events before it
abbrev pub StopsAtEvent : Config → List Event → ℕ → List Effect → State → Type 0
StopsAtEvent config events index steps service =
    IsRun config (take index events) steps service × TellsPlainly config (take index events) steps service
    × ConversesOnEach config (take index events) steps service × StopsRunAt events index service

-- Why a run ends early. An event may not happen, and the transcript is that of the events before it. Or the
-- service can't begin, since its config isn't fit. Or the config is fit, and its store failed, or memory ran
-- out for the service or for the transcript.
abbrev pub EndsEarly : {W : Type 0} → Config → List Event → ReplayFault W → Type 0
EndsEarly config events (NotAllowed index done) = StopsAtEvent config events index done.steps.items done.service
EndsEarly config events (New new.Config) = is_fit config ≡ false
EndsEarly config events (New (new.Memory _)) = is_fit config ≡ true
EndsEarly config events (New (new.Store _)) = is_fit config ≡ true
EndsEarly config events (Memory _) = is_fit config ≡ true
