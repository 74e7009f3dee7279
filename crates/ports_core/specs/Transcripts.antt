-- A whole run, by its transcript.
use Rattle.std.specs.Prelude.{◌≡◌, List, Result, IfOk}
use Rattle.ports_core.specs.InTime.{IsToldInTime}
use Rattle.ports_core.specs.Keys.{key_texts}
use Rattle.ports_core.specs.Replays.{ConversesOnEach, IsRun, TellsPlainly}
use Rattle.ports_core.specs.Sharing.{sizes_of}
use Rattle.ports_core.specs.declared.event.Event.{Event}
use Rattle.ports_core.specs.declared.history.Transcript.{Transcript}
use Rattle.ports_core.specs.declared.keys.Config.{Config}

-- where a function succeeds, it gives the transcript of a run of these events
abbrev pub GivesRun : {W E : Type 0} → Result (Transcript W) E → Config → List Event → Type 0
GivesRun result config events = IfOk result (λ done. IsRun config events done.steps.items done.service)

-- where a function succeeds, each tenant gets in its run the replies that a plain service of its own would give it
abbrev pub RunsPlainly : {W E : Type 0} → Result (Transcript W) E → Config → List Event → Type 0
RunsPlainly result config events = IfOk result (λ done. TellsPlainly config events done.steps.items done.service)

-- where a function succeeds, each connection gets in its run the replies to what its stream asks, as long as it isn't lost
abbrev pub RunsConverse : {W E : Type 0} → Result (Transcript W) E → Config → List Event → Type 0
RunsConverse result config events = IfOk result (λ done. ConversesOnEach config events done.steps.items done.service)

-- in a run of these events each request is told its reply in time
abbrev pub RunsInTime : Config → List Event → Type 0
RunsInTime config events = IsToldInTime (key_texts config.keys.items) (sizes_of config) events
