-- The bound on turns over whole runs of fewer than 2^64 events: no count of turns reaches its greatest number.
use Rattle.std.proofs.Common.{◌≡◌, ◌<◌, ◌≤◌, ◌+◌, ◌^◌, ◌==◌, ℕ, Bool, true, false, List, [], ◌∷◌, ◌++◌, length, Option, Some, None, ap, ◌∙◌}
use Rattle.std.proofs.Common.{inl, inr, arith}
use Rattle.std.specs.Prelude.{if◌then◌else◌, option_and_then}
use Rattle.std.proofs.lemmas.List.{length-append}
use Rattle.turn_amounts.specs.declared.spent.Spent.{Spent}
use Rattle.ports_http.specs.Messages.{RequestMessage}
use Rattle.ports_core.specs.declared.event.Event.{Event}
use Rattle.ports_core.specs.declared.event.Event.TheVariants.{Open, Piece, End, Fault, Wrote, Turn}
use Rattle.ports_core.specs.declared.event.Told.{Told}
use Rattle.ports_core.specs.declared.event.Tell.{Tell}
use Rattle.ports_core.specs.declared.queue.QueuedRequest.{QueuedRequest}
use Rattle.ports_core.specs.Effects.{Effect}
use Rattle.ports_core.specs.Jobs.{TenantJob, had_by, first_of, job_after}
use Rattle.ports_core.specs.JobChanges.{job_after_turn}
use Rattle.ports_core.specs.Tell.{spent_as_told}
use Rattle.ports_core.specs.State.{State, new_state, queue_at, job_at}
use Rattle.ports_core.specs.Runs.{Run}
use Rattle.ports_core.specs.InTime.{turn_in, own_turns, turns_had, EachRunIsToldInTime}
use Rattle.ports_core.proofs.InTimeLemmas.{Sees, event_seen, none_yet, told_in_time, begun_left}

-- a turn adds one at most to what the first request has had
had_then : (request : RequestMessage) (reply : Option Tell) (spent : Spent) (job : Option TenantJob)
    → (had_by (job_after request reply spent job)).turns ≤ (had_by job).turns + 1
had_then request None spent job = omega arith
had_then request (Some tell) spent job = omega arith

had_after : (first : Option QueuedRequest) (told : Told) (job : Option TenantJob)
    → (had_by (job_after_turn first told job)).turns ≤ (had_by job).turns + 1
had_after None told job = omega arith
had_after (Some first) told job = had_then first.request told.reply (spent_as_told told) job

-- so does an event
had_once : (t : ℕ) (event : Event) (told : Told) (old mid : State) → Sees t event told old mid → turns_had t mid ≤ turns_had t old + 1
had_once t event told old mid (inl h) =
    let same : turns_had t mid ≡ turns_had t old = ap (λ (job : Option TenantJob). (had_by job).turns) h.0.job in
    omega (arith, same)
had_once t event told old mid (inr h) =
    let after = option_and_then first_of (queue_at t old) in
    let is : turns_had t mid ≡ (had_by (job_after_turn after told (job_at t old))).turns =
    ap (λ (job : Option TenantJob). (had_by job).turns) h.0.job.job_is in
    let few = had_after after told (job_at t old) in
    omega (arith, is, few)

had_few : (t : ℕ) (events : List Event) (steps : List Effect) (old new : State) → Run old events steps new
    → turns_had t new ≤ turns_had t old + length events
had_few t [] [] old new same = let is : turns_had t new ≡ turns_had t old = ap (turns_had t) same in omega (arith, is)
had_few t [] (step ∷ steps) old new run = absurd run
had_few t (event ∷ events) [] old new run = absurd run
had_few t (event ∷ events) (step ∷ steps) old new run =
    let one = had_once t event step.told old run.0 (event_seen t event step old run.0 run.1) in
    let rest = had_few t events steps run.0 new run.2 in
    omega (arith, one, rest)

-- an event is one turn of a tenant at most
if_few : (b : Bool) → (if b then 1 else 0) ≤ 1
if_few true = omega arith
if_few false = omega arith

turn_few : (t : ℕ) (event : Event) → turn_in t event ≤ 1
turn_few t (Turn u) = if_few (u == t)
turn_few t (Open c) = omega arith
turn_few t (Piece c bytes) = omega arith
turn_few t (End c) = omega arith
turn_few t (Fault c) = omega arith
turn_few t (Wrote c count) = omega arith

own_few : (t : ℕ) (events : List Event) → own_turns t events ≤ length events
own_few t [] = omega arith
own_few t (event ∷ events) =
    let one = turn_few t event in
    let rest = own_few t events in
    omega (arith, one, rest)

low : (had none own before after more all : ℕ) → had ≤ none + before → none ≡ 0 → own ≤ after → all ≡ before + after + more
    → all < 2 ^ 64 → had + own < 2 ^ 64
low had none own before after more all few zero mine whole fits = omega (arith, few, zero, mine, whole, fits)

pub run_in_time : EachRunIsToldInTime
run_in_time keys sizes events fits t world first rest before after more steps_before steps_after mid later is begun goes_on waits silent =
    let whole : length events ≡ length before + length after + length more =
    ap length is ∙ length-append (before ++ after) more ∙ ap (λ n. n + length more) (length-append before after) in
    let none : turns_had t (new_state keys sizes) ≡ 0 = ap (λ (job : Option TenantJob). (had_by job).turns) (none_yet keys sizes t) in
    told_in_time t world first rest after steps_after mid later waits
    (begun_left keys sizes before steps_before mid t world first rest begun waits) goes_on silent
    (low (turns_had t mid) (turns_had t (new_state keys sizes)) (own_turns t after) (length before) (length after)
    (length more) (length events)
    (had_few t before steps_before (new_state keys sizes) mid begun) none (own_few t after) whole fits)
