-- How a run ends.
use Rattle.std.specs.Prelude.{◌≡◌, ◌⊎◌, ℕ, true, false, List, slice_get, Option, Some, Result, OnOk, OnErr, IfErr}
use Rattle.std.specs.Io.KnownBytes.{Appends, Keeps}
use Rattle.ports_core.specs.declared.keys.Config.{Config}
use Rattle.ports_core.specs.Effects.{Effect}
use Rattle.ports_core.specs.Keys.{is_fit}
use Rattle.ports_core.specs.Replays.{IsRun, TellsPlainly, ConversesOnEach, StopsAtEvent}
use Rattle.ports_core.specs.State.{State}
use Rattle.portsd_text.specs.declared.script.Script.{Script}
use Rattle.portsd_text.specs.declared.script.ScriptFault.{ScriptFault}
use Rattle.portsd_text.specs.declared.failure.Failure.{Failure}
use Rattle.portsd_text.specs.declared.failure.Failure.TheVariants.{BadKey, BadEvent, NotAllowed, CannotListen}
use Rattle.portsd_text.specs.declared.failure.Failure.TheVariants.{CannotWrite, Store, Memory}
use Rattle.portsd_text.specs.Scripts.{numbered, ReadsScript, FailsToRead}
use Rattle.portsd_text.specs.Transcript.{transcript}
use Rattle.portsd_text.specs.Output.{AppendsFront, AppendsUpTo}
use Rattle.portsd_text.specs.Failures.{failure_status, failure_text, script_failure}

-- the bytes that an input has left and an output holds, if they are known, before a run and after it
pub record Streams : Type 0 where
  pub unread : Option (List ℕ)
  pub left : Option (List ℕ)
  pub held : Option (List ℕ)
  pub holds : Option (List ℕ)

-- such streams, of which these are the bytes
abbrev pub run_streams : Option (List ℕ) → Option (List ℕ) → Option (List ℕ) → Option (List ℕ) → Streams
run_streams unread left held holds = record { unread = unread; left = left; held = held; holds = holds }

-- the bytes that a reader and a writer have before a run and after it, by what tells the bytes of each
abbrev pub io_bytes : {R O : Type 0} → (R → Option (List ℕ)) → R → R → (O → Option (List ℕ)) → O → O → Streams
io_bytes remaining old new contents out_old out_new = run_streams (remaining old) (remaining new) (contents out_old) (contents out_new)

-- The events of a script happen one after another. Each tenant gets the replies that a plain service of its
-- own would give. On each connection the replies to what it asks are written.
abbrev pub HappensWhole : Config → Script → List Effect → State → Type 0
HappensWhole config script steps service =
    IsRun config script.events.items steps service × TellsPlainly config script.events.items steps service
    × ConversesOnEach config script.events.items steps service

-- the same of the events before the one at this place, which isn't allowed
abbrev pub HappensUpTo : Config → Script → ℕ → List Effect → State → Type 0
HappensUpTo config script index steps service = StopsAtEvent config script.events.items index steps service

-- the events of a script happen, and their effects are printed
abbrev pub PrintsWhole : Config → Script → Option (List ℕ) → Option (List ℕ) → Type 0
PrintsWhole config script held holds =
    (steps : List Effect) × (service : State) × HappensWhole config script steps service
    × Appends held holds (transcript (numbered script) steps)

-- the event of a line isn't allowed; those before it happen, and their effects are printed
abbrev pub PrintsUpTo : Config → Script → ℕ → Option (List ℕ) → Option (List ℕ) → Type 0
PrintsUpTo config script line held holds =
    (index : ℕ) × (steps : List Effect) × (service : State) × HappensUpTo config script index steps service
    × (slice_get script.lines.items index ≡ Some line)
    × Appends held holds (transcript (numbered script) steps)

-- the events of a script happen, all or those before one that isn't allowed, and a front
-- of their effects is printed
abbrev pub PrintsFront : Config → Script → Option (List ℕ) → Option (List ℕ) → Type 0
PrintsFront config script held holds =
    (steps : List Effect) × (service : State)
    × (HappensWhole config script steps service ⊎ ((index : ℕ) × HappensUpTo config script index steps service))
    × AppendsFront held holds (transcript (numbered script) steps)

-- why the events of a script end early: nothing is printed, unless an event isn't
-- allowed or the output fails
abbrev pub EventsEnd : Config → Script → Option (List ℕ) → Option (List ℕ) → Failure → Type 0
EventsEnd config script held holds BadKey = ⊥
EventsEnd config script held holds (BadEvent line) = ⊥
EventsEnd config script held holds (NotAllowed line) = PrintsUpTo config script line held holds
EventsEnd config script held holds CannotListen = ⊥
EventsEnd config script held holds CannotWrite = PrintsFront config script held holds
EventsEnd config script held holds (Store _) = Keeps held holds
EventsEnd config script held holds (Memory _) = Keeps held holds

-- the keys are fit, a script is read, its events happen, and their effects are printed
abbrev pub Completes : Config → Streams → Type 0
Completes config streams =
    (is_fit config ≡ true) × (script : Script) × ReadsScript streams.unread streams.left (numbered script)
    × PrintsWhole config script streams.held streams.holds

-- a key is at fault, and nothing is read or printed
abbrev pub EndsUnfit : Config → Streams → Failure → Type 0
EndsUnfit config streams failure =
    (failure ≡ BadKey) × (is_fit config ≡ false)
    × Keeps streams.unread streams.left × Keeps streams.held streams.holds

-- the keys are fit, no script can be read, and nothing is printed
abbrev pub EndsUnread : Config → Streams → Failure → Type 0
EndsUnread config streams failure =
    (is_fit config ≡ true) × (why : ScriptFault) × (failure ≡ script_failure why)
    × FailsToRead streams.unread streams.left why × Keeps streams.held streams.holds

-- the keys are fit, a script is read, and its events end early
abbrev pub EndsUndone : Config → Streams → Failure → Type 0
EndsUndone config streams failure =
    (is_fit config ≡ true) × (script : Script) × ReadsScript streams.unread streams.left (numbered script)
    × EventsEnd config script streams.held streams.holds failure

-- why a run ends early: its keys are looked at before the script is read, and the script is
-- read before an event happens
abbrev pub Ends : Config → Streams → Failure → Type 0
Ends config streams failure =
    EndsUnfit config streams failure ⊎ (EndsUnread config streams failure ⊎ EndsUndone config streams failure)

-- How a run ends. It ends whole, with status 0, and nothing is said. Or a failure ended it: the status is
-- the failure's, and its text is said as far as standard error takes it.
abbrev pub Finishes : Config → Streams → Option (List ℕ) → Option (List ℕ) → ℕ → Type 0
Finishes config streams unsaid said status =
    ((status ≡ 0) × Completes config streams × Keeps unsaid said)
    ⊎ ((failure : Failure) × (status ≡ failure_status failure) × Ends config streams failure
    × AppendsUpTo unsaid said (failure_text failure))

-- what is to be printed isn't, or only a front of it is: the output fails, or there is no memory for the
-- text and nothing is printed
abbrev pub FailsToPrint : Option (List ℕ) → Option (List ℕ) → List ℕ → Failure → Type 0
FailsToPrint held holds bytes BadKey = ⊥
FailsToPrint held holds bytes (BadEvent line) = ⊥
FailsToPrint held holds bytes (NotAllowed line) = ⊥
FailsToPrint held holds bytes CannotListen = ⊥
FailsToPrint held holds bytes CannotWrite = AppendsFront held holds bytes
FailsToPrint held holds bytes (Store _) = ⊥
FailsToPrint held holds bytes (Memory _) = Keeps held holds

-- what is printed of a script after its events had these effects
abbrev pub run_text : Script → List Effect → List ℕ
run_text script steps = transcript (numbered script) steps

-- where a function succeeds, these bytes are added to what a writer holds
abbrev pub Prints : {O A E : Type 0} → Result A E → List ℕ → (O → Option (List ℕ)) → O → O → Type 0
Prints result bytes contents old new = OnOk result (Appends (contents old) (contents new) bytes)

-- where a function fails, a front of these bytes is added
abbrev pub PrintsPart : {O A E : Type 0} → Result A E → List ℕ → (O → Option (List ℕ)) → O → O → Type 0
PrintsPart result bytes contents old new = OnErr result (AppendsFront (contents old) (contents new) bytes)

-- where a function fails, these bytes aren't printed, or only a front of them is
abbrev pub CutsShort : {O A : Type 0} → Result A Failure → List ℕ → (O → Option (List ℕ)) → O → O → Type 0
CutsShort result bytes contents old new = IfErr result (FailsToPrint (contents old) (contents new) bytes)

-- where a function succeeds, all events of a script happen, and their effects are printed
abbrev pub RunsScript : {O A E : Type 0} → Result A E → Config → Script → (O → Option (List ℕ)) → O → O → Type 0
RunsScript result config script contents old new = OnOk result (PrintsWhole config script (contents old) (contents new))

-- where a function fails, the events of a script end early by its failure
abbrev pub EndsScriptEarly : {O A : Type 0} → Result A Failure → Config → Script → (O → Option (List ℕ)) → O → O → Type 0
EndsScriptEarly result config script contents old new = IfErr result (EventsEnd config script (contents old) (contents new))
