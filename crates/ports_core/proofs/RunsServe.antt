-- A whole run, as a tenant and the book see it.
use Rattle.std.proofs.Common.{◌≡◌, ◌<◌, ℕ, zero, suc, List, [], ◌∷◌, ◌++◌, length, Option, Some, refl, sym, ap, subst, ◌∙◌, append_assoc}
use Rattle.std.proofs.Common.{append-nil, arith}
use Rattle.std.specs.Prelude.{slice_get, map, option_map, unwrap_or}
use Rattle.ports_core.specs.declared.event.Event.{Event}
use Rattle.ports_core.specs.declared.queue.QueuedRequest.{QueuedRequest}
use Rattle.ports_core.specs.Effects.{Effect}
use Rattle.mk_paths.specs.World.{World, opening_world}
use Rattle.ports_core.specs.Answers.{plain_answer}
use Rattle.ports_core.specs.Slices.{Slice, Queue, new_slice, sliced}
use Rattle.ports_core.specs.Sharing.{Sizes}
use Rattle.ports_core.specs.State.{State, new_state, keys_of, world_at, queue_at, slice_of, book_of}
use Rattle.ports_core.specs.Runs.{Run}
use Rattle.ports_core.specs.Intake.{entering}
use Rattle.ports_core.specs.Books.{TakesIn, conn_of}
use Rattle.ports_core.specs.Plainly.{told_to, plain_run, IsToldPlainly}
use Rattle.ports_core.specs.Isolation.{EachRunServesPlainly}
use Rattle.ports_core.proofs.Serving.{Serves, told_plainly, answered_plainly}
use Rattle.ports_core.proofs.ChangeLemmas.{seen, slice_parts}
use Rattle.ports_core.proofs.StepsServe.{changes_serve}

-- what a run is to a tenant that had that slice
pub record IsServedIn (t : ℕ) (events : List Event) (steps : List Effect) (old new : State) (slice : Slice) : Type 0 where
  pub taken : List QueuedRequest
  pub takes : TakesIn (keys_of old) t (book_of old) events steps taken
  pub last : Slice
  pub last_is : slice_of t new ≡ Some last
  pub serves : Serves slice.0 (slice.1 ++ taken) (told_to t steps) last.0 last.1
  pub takes_on : (later : List Event) (later_steps : List Effect) (more : List QueuedRequest) → TakesIn (keys_of old) t (book_of new) later
      later_steps more → TakesIn (keys_of old) t (book_of old) (events ++ later) (steps ++ later_steps) (taken ++ more)

pub run_serves : (t : ℕ) (events : List Event) (steps : List Effect) (old new : State) (slice : Slice) → Run old events steps new
    → slice_of t old ≡ Some slice → IsServedIn t events steps old new slice
run_serves t [] [] old new slice same was = record {
  taken = [];
  takes = refl;
  last = slice;
  last_is = ap (slice_of t) same ∙ was;
  serves = (refl, sym (append-nil slice.1));
  takes_on = λ later later_steps more takes. subst (λ (s : State). TakesIn (keys_of old) t (book_of s) later later_steps more) same takes;
}
run_serves t [] (step ∷ steps) old new slice run was = absurd run
run_serves t (event ∷ events) [] old new slice run was = absurd run
run_serves t (event ∷ events) (step ∷ steps) old new slice run was =
    let event_seen = seen event step.told old run.0 run.1.allowed run.1.does in
    let one = changes_serve t event step.told event_seen.taken old run.0 slice event_seen.changes was in
    let more = run_serves t events steps run.0 new one.next run.2 one.next_is in
    record {
      taken = entering (keys_of old) (conn_of event) event_seen.taken t ++ more.taken;
      takes = (
        event_seen.taken,
        book_of run.0,
        more.taken,
        event_seen.books,
        refl,
        subst (λ ks. TakesIn ks t (book_of run.0) events steps
            more.taken) event_seen.keys more.takes,
      );
      last = more.last;
      last_is = more.last_is;
      serves = one.serves more.taken (told_to t steps) more.last.0 more.last.1 more.serves;
      takes_on = λ later later_steps further takes. (
        event_seen.taken,
        book_of run.0,
        more.taken ++ further,
        event_seen.books,
        append_assoc (entering (keys_of old) (conn_of event) event_seen.taken t) more.taken further,
        subst (λ ks. TakesIn ks t (book_of run.0) (events ++ later) (steps ++ later_steps) (more.taken ++ further)) event_seen.keys
            (more.takes_on later later_steps further (subst (λ ks. TakesIn ks t (book_of new) later later_steps further)
            (sym event_seen.keys) takes)),
      );
    }

-- each tenant begins with a new slice
slice_get-all : {X : Type 0} (x : X) (keys : List (List ℕ)) (t : ℕ) → t < length keys
    → slice_get (map (λ (key : List ℕ). x) keys) t ≡ Some x
slice_get-all x [] t lt = absurd (omega arith)
slice_get-all x (key ∷ keys) zero lt = refl
slice_get-all x (key ∷ keys) (suc t) lt = slice_get-all x keys t (omega arith)

pub begins_new : (keys : List (List ℕ)) (sizes : Sizes) (t : ℕ) → t < length keys → slice_of t (new_state keys sizes) ≡ Some new_slice
begins_new keys sizes t lt =
    let empty : Queue = [] in
    ap (λ w. sliced w (queue_at t (new_state keys sizes))) (slice_get-all opening_world keys t lt)
    ∙ ap (sliced (Some opening_world)) (slice_get-all empty keys t lt)

-- as many as wait are left
length-plain_run : (queued_requests : List QueuedRequest) (world : World) → length (plain_run world queued_requests)
    ≡ length queued_requests
length-plain_run [] world = refl
length-plain_run (queued_request ∷ queued_requests) world =
    ap suc (length-plain_run queued_requests (plain_answer world queued_request.request).1)

-- in each run from the beginning a tenant is told what the plain service would tell it
pub run_plainly : (keys : List (List ℕ)) (sizes : Sizes) (events : List Event) (steps : List Effect) (service : State) (t : ℕ)
    → t < length keys → Run (new_state keys sizes) events steps service → IsToldPlainly keys t events steps service
run_plainly keys sizes events steps service t lt run =
    let served = run_serves t events steps (new_state keys sizes) service new_slice run (begins_new keys sizes t lt) in
    record {
      taken = served.taken;
      takes = served.takes;
      later = plain_run served.last.0 served.last.1;
      plainly = told_plainly new_slice.0 served.taken (told_to t steps) served.last.0 served.last.1 served.serves;
      waiting = length-plain_run served.last.1 served.last.0
          ∙ sym (ap (λ (o : Option Queue). unwrap_or (option_map length o) 0) (slice_parts (world_at t service) (queue_at t service)
          served.last served.last_is).1);
    }

-- in each run from any state a tenant is served plainly
pub run_serves_plainly : EachRunServesPlainly
run_serves_plainly t slice events steps old new was run =
    let served = run_serves t events steps old new slice run was in
    let plainly = answered_plainly slice.0 (slice.1 ++ served.taken) (told_to t steps) served.last.0 served.last.1 served.serves in
    record {
      taken = served.taken;
      takes = served.takes;
      last = served.last;
      last_is = served.last_is;
      answered = plainly.answered;
      own = plainly.own;
      replies = plainly.replies;
      world = plainly.world_is;
    }
