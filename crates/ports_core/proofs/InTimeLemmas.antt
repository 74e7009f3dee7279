-- The turns that a tenant's first request has had, event by event.
use Rattle.std.proofs.Common.{◌≡◌, ◌≢◌, ◌<◌, ◌+◌, ◌^◌, ℕ, zero, suc, List, [], ◌∷◌, ◌++◌, Option, Some, None, refl, sym, ap, subst, ◌∙◌}
use Rattle.std.proofs.Common.{inl, inr, append-nil, eq-eqb, ⊎_elim, arith}
use Rattle.std.specs.Prelude.{◌⊎◌, MatchOption, if◌then◌else◌, option_map, option_and_then}
use Rattle.std.proofs.lemmas.Bool.{cases_eq}
use Rattle.mk_paths.specs.World.{World}
use Rattle.turn_amounts.specs.Spent.{counted}
use Rattle.plain_service.specs.AnswerCosts.{most_turns}
use Rattle.ports_core.specs.declared.event.Event.{Event}
use Rattle.ports_core.specs.declared.event.Event.TheVariants.{Open, Piece, End, Fault, Wrote, Turn}
use Rattle.ports_core.specs.declared.event.Told.{Told}
use Rattle.ports_core.specs.declared.event.Tell.{Tell}
use Rattle.ports_core.specs.declared.job.Job.{Job}
use Rattle.ports_core.specs.declared.queue.QueuedRequest.{QueuedRequest}
use Rattle.ports_core.specs.Effects.{Effect}
use Rattle.ports_core.specs.Answers.{plain_request_of}
use Rattle.ports_core.specs.Slices.{Slice, Queue, with_requests}
use Rattle.ports_core.specs.Jobs.{TenantJob, had_by, spent_on, one_turn_more, first_of, job_after}
use Rattle.ports_core.specs.JobChanges.{KeepsJobs, TurnsJob, job_after_turn}
use Rattle.ports_core.specs.Sharing.{Sizes}
use Rattle.ports_core.specs.State.{State, keys_of, new_state, world_at, queue_at, slice_of, job_at}
use Rattle.ports_core.specs.Intake.{Taken, entering}
use Rattle.ports_core.specs.Tell.{in_turn, spent_as_told}
use Rattle.ports_core.specs.Charges.{MayHaveHad, Charges, TurnSpends}
use Rattle.ports_core.specs.Steps.{Turns, IsPending}
use Rattle.ports_core.specs.Changes.{Enters, ChangesSlices}
use Rattle.ports_core.specs.Runs.{Happens, Run}
use Rattle.ports_core.specs.Plainly.{is_this_tenant, told_if, told_to}
use Rattle.ports_core.specs.InTime.{turn_in, own_turns, turns_had, EachRequestIsToldInTime, EachFirstHasTurnsLeft}
use Rattle.ports_core.proofs.ChangeLemmas.{seen, slice_parts, same_slice}
use Rattle.ports_core.proofs.Lists.{option_from}
use Rattle.ports_core.proofs.Numbers.{other_number}

-- What an event is to a tenant whose turn it isn't: requests may come to wait after the others, and the job stays.
pub record Stays (t : ℕ) (old new : State) : Type 0 where
  pub queued : List QueuedRequest
  pub slice : slice_of t new ≡ option_map (with_requests queued) (slice_of t old)
  pub job : job_at t new ≡ job_at t old

-- what a turn is to its tenant
pub record IsOwnTurn (t : ℕ) (told : Told) (old new : State) : Type 0 where
  pub turns : Turns t told old new
  pub spends : TurnSpends (slice_of t old) (job_at t old) told
  pub job : TurnsJob t told old new

abbrev pub Sees : ℕ → Event → Told → State → State → Type 0
Sees t event told old new = (Stays t old new × (turn_in t event ≡ 0)) ⊎ (IsOwnTurn t told old new × (turn_in t event ≡ 1))

with_requests-none : (slice : Option Slice) → slice ≡ option_map (with_requests []) slice
with_requests-none None = refl
with_requests-none (Some (world, queue)) = ap (λ (q : Queue). let s : Option Slice = Some (world, q) in s) (sym (append-nil queue))

rests : (t : ℕ) (old new : State) → slice_of t new ≡ slice_of t old → job_at t new ≡ job_at t old → Stays t old new
rests t old new slice job = record { queued = []; slice = slice ∙ with_requests-none (slice_of t old); job = job }

hears : (t c : ℕ) (told : Told) (taken : Taken) (old new : State) → Enters c told taken old new → KeepsJobs old new → Stays t old new
hears t c told taken old new h jobs = record { queued = entering (keys_of old) c taken t; slice = h.slices t; job = jobs t }

module _ (t u : ℕ) (told : Told) (old new : State) (jobs : TurnsJob u told old new) where
  keeps : (taken : Taken) → t ≢ u → ChangesSlices (Turn u) told taken old new → slice_of t new ≡ slice_of t old
  keeps taken apart (inl h) = h.slices t
  keeps taken apart (inr h) = h.others t apart

  other_turn : (taken : Taken) → ChangesSlices (Turn u) told taken old new → t ≢ u → Sees t (Turn u) told old new
  other_turn taken changes apart = inl (
    rests t old new (keeps taken apart changes) (jobs.others t apart),
    ap (λ b. if b then 1 else 0) (other_number u t (λ e. apart (sym e))),
  )

  own_turn : Turns u told old new → TurnSpends (slice_of u old) (job_at u old) told → t ≡ u → Sees t (Turn u) told old new
  own_turn turns spends same =
      let own : IsOwnTurn u told old new = record { turns = turns; spends = spends; job = jobs } in
      inr (subst (λ n. IsOwnTurn n told old new) (sym same) own, ap (λ b. if b then 1 else 0) (eq-eqb u t (sym same)))

pub event_seen : (t : ℕ) (event : Event) (step : Effect) (old new : State) → Happens event step old new → Sees t event step.told old new
event_seen t (Open c) step old new h =
    inl (rests t old new ((seen (Open c) step.told old new h.allowed h.does).changes.slices t) (h.jobs t), refl)
event_seen t (Piece c bytes) step old new h =
    let is = seen (Piece c bytes) step.told old new h.allowed h.does in
    inl (hears t c step.told is.taken old new is.changes h.jobs, refl)
event_seen t (End c) step old new h =
    let is = seen (End c) step.told old new h.allowed h.does in
    inl (hears t c step.told is.taken old new is.changes h.jobs, refl)
event_seen t (Fault c) step old new h =
    inl (rests t old new ((seen (Fault c) step.told old new h.allowed h.does).changes.slices t) (h.jobs t), refl)
event_seen t (Wrote c count) step old new h =
    let is = seen (Wrote c count) step.told old new h.allowed h.does in
    inl (hears t c step.told is.taken old new is.changes h.jobs, refl)
event_seen t (Turn u) step old new h =
    let is = seen (Turn u) step.told old new h.allowed h.does in
    ⊎_elim (own_turn t u step.told old new h.jobs h.does h.spends) (other_turn t u step.told old new h.jobs is.taken is.changes)
    (cases_eq t u)

-- the job after a turn of a tenant for which this request waits first
job_then : (t : ℕ) (told : Told) (old new : State) (first : QueuedRequest) (rest : List QueuedRequest) (reply : Option Tell)
    → TurnsJob t told old new → queue_at t old ≡ Some (first ∷ rest) → told.reply ≡ reply
    → job_at t new ≡ job_after first.request reply (spent_as_told told) (job_at t old)
job_then t told old new first rest reply job waits reply_is =
    job.job_is
    ∙ ap (λ (q : Option Queue). job_after_turn (option_and_then first_of q) told (job_at t old)) waits
    ∙ ap (λ r. job_after first.request r (spent_as_told told) (job_at t old)) reply_is

-- the same after one in which nothing is told
had_then : (t : ℕ) (told : Told) (old new : State) (first : QueuedRequest) (rest : List QueuedRequest) → TurnsJob t told old new
    → queue_at t old ≡ Some (first ∷ rest) → told.reply ≡ None
    → had_by (job_at t new) ≡ one_turn_more (had_by (job_at t old)) (spent_as_told told)
had_then t told old new first rest job waits silent = ap had_by (job_then t told old new first rest None job waits silent)

-- what it may have had then
may_have : (t : ℕ) (told : Told) (old : State) (world : World) (first : QueuedRequest) (rest : List QueuedRequest)
    → TurnSpends (slice_of t old) (job_at t old) told → slice_of t old ≡ Some (world, first ∷ rest) → told.reply ≡ None
    → MayHaveHad world first.request (one_turn_more (had_by (job_at t old)) (spent_as_told told))
may_have t told old world first rest spends is silent =
    let waits : TurnSpends (Some (world, first ∷ rest)) (job_at t old) told =
    subst (λ (s : Option Slice). TurnSpends s (job_at t old) told) is spends in
    subst (λ (r : Option Tell). MatchOption r (MayHaveHad world first.request (one_turn_more (had_by (job_at t old)) (spent_as_told told)))
    (λ (tell : Tell). Charges world first.request tell.reply (spent_on (job_at t old)) (spent_as_told told))) silent waits

-- the turns after a turn without a reply are fewer than the bound
turns_left : (t : ℕ) (told : Told) (old new : State) (world : World) (first : QueuedRequest) (rest : List QueuedRequest)
    → IsOwnTurn t told old new → slice_of t old ≡ Some (world, first ∷ rest) → told.reply ≡ None
    → turns_had t new < most_turns world (plain_request_of first.request)
turns_left t told old new world first rest own is silent =
    let waits = (slice_parts (world_at t old) (queue_at t old) (world, first ∷ rest) is).1 in
    subst (λ n. n < most_turns world (plain_request_of first.request))
    (sym (ap (λ (had : Job). had.turns) (had_then t told old new first rest own.job waits silent)))
    (may_have t told old world first rest own.spends is silent).turns

-- numbers of turns
still-fewer : (had mid turns own most : ℕ) → mid ≡ had → turns ≡ 0 → mid + own < most → had + (turns + own) < most
still-fewer had mid turns own most same none less = omega (arith, same, none, less)

still-low : (had mid turns own : ℕ) → mid ≡ had → turns ≡ 0 → had + (turns + own) < 2 ^ 64 → mid + own < 2 ^ 64
still-low had mid turns own same none low = omega (arith, same, none, low)

one-more : (had mid turns own : ℕ) → mid ≡ counted (had + 1) → turns ≡ 1 → had + (turns + own) < 2 ^ 64 → mid + own ≡ had + (turns + own)
one-more had mid turns own is one low = omega (arith, is, one, low)

-- nothing is told where two lists of replies are none together
none_first : {X : Type 0} (xs ys : List X) → xs ++ ys ≡ [] → xs ≡ []
none_first [] ys none = refl
none_first (x ∷ xs) ys none = absurd cc

none_then : {X : Type 0} (xs ys : List X) → xs ++ ys ≡ [] → ys ≡ []
none_then [] ys none = none
none_then (x ∷ xs) ys none = absurd cc

-- a reply that a tenant is told in its turn is told to it
told_one : (t : ℕ) (told : Told) (tell : Tell) → told.reply ≡ Some tell → tell.tenant ≡ Some t → told_if t told.reply ≡ tell ∷ []
told_one t told tell is of_tenant =
    ap (told_if t) is ∙ ap (λ p. if is_this_tenant t p then tell ∷ [] else []) of_tenant
    ∙ ap (λ b. if b then tell ∷ [] else []) (eq-eqb t t refl)

one_not_none : {X : Type 0} {x : X} {xs : List X} → xs ≡ x ∷ [] → xs ≡ [] → ⊥
one_not_none one none = cc

-- in a turn in which nothing is told to the tenant, its first request waits on
is_pending : (t : ℕ) (told : Told) (old new : State) (first : QueuedRequest) (rest : List QueuedRequest) → Turns t told old new
    → queue_at t old ≡ Some (first ∷ rest) → told_if t told.reply ≡ [] → IsPending t told old new
is_pending t told old new first rest (inl h) waits silent = absurd (let none : ◌≡◌ {A = Option Queue} (Some []) (Some (first ∷ rest)) =
    sym h.nothing_waits ∙ waits in cc)
is_pending t told old new first rest (inr (inl h)) waits silent = h
is_pending t told old new first rest (inr (inr h)) waits silent =
    absurd (one_not_none (told_one t told (in_turn t h.first.conn h.replied) h.reply refl) silent)

kept : (t : ℕ) (told : Told) (old new : State) → IsPending t told old new → slice_of t new ≡ slice_of t old
kept t told old new h = same_slice t old new (h.same.worlds t) (h.same.queues t)

-- what holds of the rest of a run holds with one event before it
module _ (t : ℕ) (event : Event) (events : List Event) (step : Effect) (old mid : State) (world : World) (first : QueuedRequest)
    (rest : List QueuedRequest)
    (is : slice_of t old ≡ Some (world, first ∷ rest)) (left : turns_had t old < most_turns world (plain_request_of first.request))
    (silent : told_if t step.told.reply ≡ []) (low : turns_had t old + (turn_in t event + own_turns t events) < 2 ^ 64)
    (goes_on : (behind : List QueuedRequest) → slice_of t mid ≡ Some (world, first ∷ behind) → turns_had t mid < most_turns world
    (plain_request_of first.request)
    → turns_had t mid + own_turns t events < 2 ^ 64 → turns_had t mid + own_turns t events < most_turns world
    (plain_request_of first.request)) where
  one_stays : Stays t old mid × (turn_in t event ≡ 0) → turns_had t old + (turn_in t event + own_turns t events) < most_turns world
      (plain_request_of first.request)
  one_stays (h, none) =
      let had : turns_had t mid ≡ turns_had t old = ap (λ (job : Option TenantJob). (had_by job).turns) h.job in
      let waits : slice_of t mid ≡ Some (world, first ∷ (rest ++ h.queued)) = h.slice ∙ ap (option_map (with_requests h.queued)) is in
      still-fewer (turns_had t old) (turns_had t mid) (turn_in t event) (own_turns t events) _ had none
      (goes_on (rest ++ h.queued) waits (subst (λ n. n < most_turns world (plain_request_of first.request)) (sym had) left)
      (still-low (turns_had t old) (turns_had t mid) (turn_in t event) (own_turns t events) had none low))

  one_turns : IsOwnTurn t step.told old mid × (turn_in t event ≡ 1) → turns_had t old + (turn_in t event + own_turns t events) < most_turns
      world (plain_request_of first.request)
  one_turns (h, one) =
      let waited = (slice_parts (world_at t old) (queue_at t old) (world, first ∷ rest) is).1 in
      let pending = is_pending t step.told old mid first rest h.turns waited silent in
      let had : turns_had t mid ≡ counted (turns_had t old + 1) = ap (λ (had : Job). had.turns)
      (had_then t step.told old mid first rest h.job waited pending.reply) in
      let sum = one-more (turns_had t old) (turns_had t mid) (turn_in t event) (own_turns t events) had one low in
      subst (λ n. n < most_turns world (plain_request_of first.request)) sum
      (goes_on rest (kept t step.told old mid pending ∙ is) (turns_left t step.told old mid world first rest h is pending.reply)
      (subst (λ n. n < 2 ^ 64) (sym sum) low))

  one_in_time : Sees t event step.told old mid → turns_had t old + (turn_in t event + own_turns t events) < most_turns world
      (plain_request_of first.request)
  one_in_time (inl h) = one_stays h
  one_in_time (inr h) = one_turns h

pub told_in_time : EachRequestIsToldInTime
told_in_time t world first rest [] [] old new is left run silent low = omega (arith, left)
told_in_time t world first rest [] (step ∷ steps) old new is left run silent low = absurd run
told_in_time t world first rest (event ∷ events) [] old new is left run silent low = absurd run
told_in_time t world first rest (event ∷ events) (step ∷ steps) old new is left run silent low =
    one_in_time t event events step old run.0 world first rest is left (none_first (told_if t step.told.reply) (told_to t steps) silent) low
    (λ behind waits before less. told_in_time t world first behind events steps run.0 new waits before run.2
    (none_then (told_if t step.told.reply) (told_to t steps) silent) less)
    (event_seen t event step old run.0 run.1)

-- Fewer turns than the bound were had by the first request of a tenant with this slice and this job. Where nothing
-- waits, there is no job.
abbrev HasTurnsLeft : Slice → Option TenantJob → Type 0
HasTurnsLeft (world, []) job = job ≡ None
HasTurnsLeft (world, first ∷ rest) job = (had_by job).turns < most_turns world (plain_request_of first.request)

abbrev HasLeft : ℕ → State → Type 0
HasLeft t state = (slice : Slice) → slice_of t state ≡ Some slice → HasTurnsLeft slice (job_at t state)

some-left : (n m : ℕ) → 0 < 1 + n + m
some-left n m = omega arith

-- where there is no job, all turns are left
left_none : (slice : Slice) → HasTurnsLeft slice None
left_none (world, []) = refl
left_none (world, first ∷ rest) = some-left _ _

-- requests that come to wait after the others change nothing of that
left_joined : (queued : List QueuedRequest) (slice : Slice) (job : Option TenantJob) → HasTurnsLeft slice job
    → HasTurnsLeft (with_requests queued slice) job
left_joined queued (world, []) job none = subst (HasTurnsLeft (world, queued)) (sym none) (left_none (world, queued))
left_joined queued (world, first ∷ rest) job left = left

left_stays : (t : ℕ) (old new : State) → Stays t old new → HasLeft t old → HasLeft t new
left_stays t old new h left slice is =
    let from = option_from (with_requests h.queued) (slice_of t old) slice (sym h.slice ∙ is) in
    subst (HasTurnsLeft slice) (sym h.job)
    (subst (λ (s : Slice). HasTurnsLeft s (job_at t old)) from.2 (left_joined h.queued from.0 (job_at t old) (left from.0 from.1)))

pending_left : (t : ℕ) (told : Told) (old new : State) (slice : Slice) → IsOwnTurn t told old new → IsPending t told old new
    → slice_of t old ≡ Some slice → HasTurnsLeft slice (job_at t new)
pending_left t told old new (world, []) own h is =
    absurd (let none : ◌≡◌ {A = Option Queue} (Some []) (Some (h.first ∷ h.rest)) =
    sym (slice_parts (world_at t old) (queue_at t old) (world, []) is).1 ∙ h.waits in cc)
pending_left t told old new (world, first ∷ rest) own h is = turns_left t told old new world first rest own is h.reply

-- after each turn of its own a tenant's first request has turns left
left_turn : (t : ℕ) (told : Told) (old new : State) (slice : Slice) (own : IsOwnTurn t told old new) → Turns t told old new
    → slice_of t new ≡ Some slice → HasTurnsLeft slice (job_at t new)
left_turn t told old new slice own (inl h) is =
    let none : job_at t new ≡ None = own.job.job_is
    ∙ ap (λ (q : Option Queue). job_after_turn (option_and_then first_of q) told (job_at t old)) h.nothing_waits in
    subst (HasTurnsLeft slice) (sym none) (left_none slice)
left_turn t told old new slice own (inr (inl h)) is = pending_left t told old new slice own h (sym (kept t told old new h) ∙ is)
left_turn t told old new slice own (inr (inr h)) is =
    subst (HasTurnsLeft slice)
    (sym (job_then t told old new h.first h.rest (Some (in_turn t h.first.conn h.replied)) own.job h.waited h.reply)) (left_none slice)

run_left : (t : ℕ) (events : List Event) (steps : List Effect) (old new : State) → Run old events steps new → HasLeft t old → HasLeft t new
run_left t [] [] old new same left = subst (HasLeft t) (sym same) left
run_left t [] (step ∷ steps) old new run left = absurd run
run_left t (event ∷ events) [] old new run left = absurd run
run_left t (event ∷ events) (step ∷ steps) old new run left = run_left t events steps run.0 new run.2
    (one_left (event_seen t event step old run.0 run.1))
  where
    one_left : Sees t event step.told old run.0 → HasLeft t run.0
    one_left (inl h) = left_stays t old run.0 h.0 left
    one_left (inr h) = λ slice is. left_turn t step.told old run.0 slice h.0 h.0.turns is

-- no tenant has a job at the beginning
pub none_yet : (keys : List (List ℕ)) (sizes : Sizes) (t : ℕ) → job_at t (new_state keys sizes) ≡ None
none_yet [] sizes t = refl
none_yet (key ∷ keys) sizes zero = refl
none_yet (key ∷ keys) sizes (suc t) = none_yet keys sizes t

pub begun_left : EachFirstHasTurnsLeft
begun_left keys sizes events steps service t world first rest run is =
    run_left t events steps (new_state keys sizes) service run (λ slice was. subst (HasTurnsLeft slice) (sym (none_yet keys sizes t))
    (left_none slice)) (world, first ∷ rest) is
