-- How runs end.
use Rattle.std.proofs.Common.{◌≡◌, ◌<◌, ◌∙◌, ◌⊎◌, inl, inr, Bool, true, false, ℕ, List, length, refl, sym, subst, arith, Option, Some, None}
use Rattle.std.proofs.Common.{Result, Ok, Err}
use Rattle.std.proofs.lemmas.Option.{slice_get_within, slice_get-get_or}
use Rattle.std.proofs.lemmas.Bool.{false≢true}
use Rattle.std.specs.Prelude.{slice_index}
use Rattle.std.specs.Result.{OnOk, IfOk, IfErr}
use Rattle.std.specs.Io.KnownBytes.{Appends, Keeps}
use Rattle.ports_core.specs.declared.event.Event.{Event}
use Rattle.ports_core.specs.declared.history.Transcript.{Transcript}
use Rattle.ports_core.specs.declared.keys.Config.{Config}
use Rattle.ports_core.specs.Effects.{Effect}
use Rattle.ports_core.specs.declared.history.ReplayFault.{ReplayFault}
use Rattle.ports_core.specs.declared.history.ReplayFault.TheVariants as run
use Rattle.ports_core.specs.declared.service.NewFault.{NewFault}
use Rattle.ports_core.specs.declared.service.NewFault.TheVariants as new
use Rattle.ports_core.specs.Replays.{IsRun, TellsPlainly, ConversesOnEach, StopsAtEvent, EndsEarly}
use Rattle.ports_core.specs.State.{State}
use Rattle.portsd_text.specs.declared.script.Script.{Script}
use Rattle.portsd_text.specs.declared.script.ScriptFault.{ScriptFault}
use Rattle.portsd_text.specs.declared.failure.Failure.{Failure}
use Rattle.portsd_text.specs.declared.failure.Failure.TheVariants as failure
use Rattle.portsd_text.specs.declared.failure.Failure.TheVariants.{BadKey, BadEvent, CannotListen, CannotWrite, Store, Memory}
use Rattle.portsd_text.specs.Scripts.{numbered, ReadsScript, FailsToRead}
use Rattle.portsd_text.specs.Transcript.{transcript}
use Rattle.ports_core.specs.Keys.{is_fit}
use Rattle.portsd_run.specs.ScriptRun.{Streams, HappensWhole, HappensUpTo, PrintsWhole, PrintsUpTo, EventsEnd, Completes, Ends}
use Rattle.portsd_run.specs.ScriptRun.{FailsToPrint}
use Rattle.portsd_run.specs.RunReport.{PrintsRun, FailsAfter}
use Rattle.portsd_text.specs.Failures.{script_failure, new_failure}

pub Keeps-same : (known : Option (List ℕ)) → Keeps known known
Keeps-same None = tt
Keeps-same (Some bytes) = refl

-- the events of a script happened
pub happens : (config : Config) (script : Script) (steps : List Effect) (service : State) (events : List Event)
    → events ≡ script.events.items → IsRun config events steps service → TellsPlainly config events steps service
    → ConversesOnEach config events steps service → HappensWhole config script steps service
happens config script steps service events e run plainly converses = (
  subst (λ (ran : List Event). IsRun config ran steps service) e run,
  subst (λ (ran : List Event). TellsPlainly config ran steps service) e plainly,
  subst (λ (ran : List Event). ConversesOnEach config ran steps service) e converses,
)

-- events happened, and aren't printed
events_unprinted : (config : Config) (script : Script) (held holds : Option (List ℕ)) (steps : List Effect) (service : State)
    (failure : Failure) → (HappensWhole config script steps service ⊎ ((index : ℕ) × HappensUpTo config script index steps service))
    → FailsToPrint held holds (transcript (numbered script) steps) failure → EventsEnd config script held holds failure
events_unprinted config script held holds steps service BadKey happened h = absurd h
events_unprinted config script held holds steps service (BadEvent line) happened h = absurd h
events_unprinted config script held holds steps service (failure.NotAllowed line) happened h = absurd h
events_unprinted config script held holds steps service CannotListen happened h = absurd h
events_unprinted config script held holds steps service CannotWrite happened h = (steps, service, happened, h)
events_unprinted config script held holds steps service (Store _) happened h = absurd h
events_unprinted config script held holds steps service (Memory _) happened h = h

-- all events of a run happened, and are printed
pub done_run : {W A E : Type 0} (config : Config) (script : Script) (held holds : Option (List ℕ)) (r : Result A E)
    (ran : Result (Transcript W) (ReplayFault W)) (events : List Event) → events ≡ script.events.items
    → IfOk ran (λ done. IsRun config events done.steps.items done.service)
    → IfOk ran (λ done. TellsPlainly config events done.steps.items done.service)
    → IfOk ran (λ done. ConversesOnEach config events done.steps.items done.service)
    → OnOk r (PrintsRun script ran held holds) → OnOk r (PrintsWhole config script held holds)
done_run config script held holds (Err why) ran events e run plainly converses h = h
done_run config script held holds (Ok x) (Err why) events e run plainly converses h = absurd h
done_run config script held holds (Ok x) (Ok done) events e run plainly converses h =
    (done.steps.items, done.service, happens config script done.steps.items done.service events e run plainly converses, h)

-- the event of a line wasn't allowed, and those before it are printed
pub prints_up_to : {W : Type 0} (config : Config) (script : Script) (held holds : Option (List ℕ)) (index : ℕ) (done : Transcript W)
    → length script.lines.items ≡ length script.events.items
    → StopsAtEvent config script.events.items index done.steps.items done.service
    → Appends held holds (transcript (numbered script) done.steps.items)
    → PrintsUpTo config script (slice_index script.lines.items index) held holds
prints_up_to config script held holds index done paired stops appends =
    let event = slice_get_within script.events.items index _ stops.3.1 in
    let within : index < length script.lines.items = omega (arith, paired, event) in
    (index, done.steps.items, done.service, stops, slice_get-get_or script.lines.items index 0 within, appends)

-- the service didn't begin
unbegun : (config : Config) (script : Script) (held holds : Option (List ℕ)) (why : NewFault) → is_fit config ≡ true
    → (why ≡ new.Config → is_fit config ≡ false) → Keeps held holds → EventsEnd config script held holds (new_failure why)
unbegun config script held holds new.Config fit unfit kept = absurd (false≢true (sym (unfit refl) ∙ fit))
unbegun config script held holds (new.Store _) fit unfit kept = kept
unbegun config script held holds (new.Memory _) fit unfit kept = kept

-- a config that is fit begins, if its beginning doesn't fail
unfit_only : (W : Type 0) (config : Config) (events : List Event) (why : NewFault) → EndsEarly {W = W} config events (run.New why)
    → why ≡ new.Config → is_fit config ≡ false
unfit_only W config events why early is = subst (λ fault. EndsEarly {W = W} config events (run.New fault)) is early

-- a run failed, or its output did
pub failed_run : {W A : Type 0} (config : Config) (script : Script) (held holds : Option (List ℕ)) (r : Result A Failure)
    (ran : Result (Transcript W) (ReplayFault W)) (events : List Event) → events ≡ script.events.items
    → is_fit config ≡ true → length script.lines.items ≡ length script.events.items
    → IfOk ran (λ done. IsRun config events done.steps.items done.service)
    → IfOk ran (λ done. TellsPlainly config events done.steps.items done.service)
    → IfOk ran (λ done. ConversesOnEach config events done.steps.items done.service)
    → IfErr ran (EndsEarly config events)
    → IfErr r (FailsAfter script ran held holds) → IfErr r (EventsEnd config script held holds)
failed_run config script held holds (Ok x) ran events e fit paired run plainly converses early h = h
failed_run config script held holds (Err failure) (Ok done) events e fit paired run plainly converses early h =
    events_unprinted config script held holds done.steps.items done.service failure
    (inl (happens config script done.steps.items done.service events e run plainly converses)) h
failed_run config script held holds (Err failure) (Err (run.NotAllowed index done)) events e fit paired run plainly
    converses early (inl h) =
    let stops = subst (λ (ran : List Event). StopsAtEvent config ran index done.steps.items done.service) e early in
    events_unprinted config script held holds done.steps.items done.service failure (inr (index, stops)) h
failed_run config script held holds (Err failure) (Err (run.NotAllowed index done)) events e fit paired run plainly converses
    early (inr (is, appends)) =
    let stops = subst (λ (ran : List Event). StopsAtEvent config ran index done.steps.items done.service) e early in
    subst (EventsEnd config script held holds) (sym is) (prints_up_to config script held holds index done paired stops appends)
failed_run {W} config script held holds (Err failure) (Err (run.New why)) events e fit paired run plainly converses early (is, kept) =
    subst (EventsEnd config script held holds) (sym is)
    (unbegun config script held holds why fit (unfit_only W config events why early) kept)
failed_run config script held holds (Err failure) (Err (run.Memory _)) events e fit paired run plainly converses early (is, kept) =
    subst (EventsEnd config script held holds) (sym is) kept

-- a script was read and run
pub completes : {A E : Type 0} (config : Config) (streams : Streams) (r : Result A E) (script : Script) → is_fit config ≡ true
    → ReadsScript streams.unread streams.left (numbered script) → OnOk r (PrintsWhole config script streams.held streams.holds)
    → OnOk r (Completes config streams)
completes config streams (Ok x) script fit read prints = (fit, script, read, prints)
completes config streams (Err why) script fit read prints = prints

-- no script was read
pub unread : (config : Config) (streams : Streams) (why : ScriptFault) → is_fit config ≡ true → FailsToRead streams.unread streams.left why
    → Keeps streams.held streams.holds → Ends config streams (script_failure why)
unread config streams why fit h k = inr (inl (fit, why, refl, h, k))

-- a script was read, and its events end early
pub ends_undone : {A : Type 0} (config : Config) (streams : Streams) (r : Result A Failure) (script : Script) → is_fit config ≡ true
    → ReadsScript streams.unread streams.left (numbered script) → IfErr r (EventsEnd config script streams.held streams.holds)
    → IfErr r (Ends config streams)
ends_undone config streams (Ok x) script fit read h = h
ends_undone config streams (Err failure) script fit read h = inr (inr (fit, script, read, h))

pub not_false : (b : Bool) → (b ≡ false → ⊥) → b ≡ true
not_false true h = refl
not_false false h = absurd (h refl)
