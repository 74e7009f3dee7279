-- What is taken off a connection, case by case.
use Rattle.std.proofs.Common.{◌≡◌, ◌<◌, ℕ, Bool, true, false, List, [], ◌∷◌, ◌++◌, length, Option, Some, None, refl, sym, ap, subst, ◌∙◌}
use Rattle.std.proofs.Common.{append-nil, eq-eqb, ⊎_elim}
use Rattle.std.specs.Prelude.{MatchBool, Result, Ok, Err, option_map, slice_get, ◌==◌, if◌then◌else◌}
use Rattle.std.proofs.Math.ListN.{set}
use Rattle.std.proofs.lemmas.Bool.{cases_eq}
use Rattle.ports_http.specs.declared.fault.HeadFault.{HeadFault}
use Rattle.ports_http.specs.Messages.{RequestMessage}
use Rattle.ports_http.specs.declared.request.TakeError.{TakeError}
use Rattle.ports_http.specs.declared.request.TakeError.TheVariants.{Memory}
use Rattle.ports_http.specs.UnreadBytes.{Incoming, TakesOrLoses}
use Rattle.ports_core.specs.declared.connection.Connection.{Connection}
use Rattle.ports_core.specs.declared.event.Tell.{Tell}
use Rattle.ports_core.specs.declared.queue.QueuedRequest.{QueuedRequest}
use Rattle.ports_core.specs.Keys.{tenant_of}
use Rattle.ports_core.specs.Slices.{Queue}
use Rattle.ports_core.specs.Connections.{is_ready}
use Rattle.ports_core.specs.Intake.{Taken, Nothing, Whole, taken_of, TakesOff, IsTaken, refused_at_once, connection_after, entering_of}
use Rattle.ports_core.specs.Intake.{entering, Joins, TakesNext}
use Rattle.ports_core.proofs.Numbers.{other_number}
use Rattle.ports_core.proofs.Lists.{slice_get-set_same, slice_get-set_other}

-- nothing waits after a queue
pub nothing_after : (o : Option Queue) → o ≡ option_map (λ (queue : Queue). queue ++ []) o
nothing_after None = refl
nothing_after (Some queue) = ap Some (sym (append-nil queue))

-- what comes first on a connection that is ready is taken
pub taken_of_ready : (connection : Connection) (taken : Taken) (stream : Incoming) → is_ready connection ≡ true
    → TakesOff connection.stream taken stream → IsTaken connection taken stream
taken_of_ready connection taken stream ready takes =
    let P : Bool → Type 0 = λ b. MatchBool b (TakesOff connection.stream taken stream) ((taken ≡ Nothing) × (stream ≡ connection.stream)) in
    subst P (sym ready) takes

-- nothing is taken off a connection that isn't
pub taken_of_busy : (connection : Connection) → is_ready connection ≡ false → IsTaken connection Nothing connection.stream
taken_of_busy connection busy =
    let P : Bool → Type 0 = λ b. MatchBool b (TakesOff connection.stream Nothing connection.stream) ((Nothing ≡ Nothing)
    × (connection.stream ≡ connection.stream)) in
    subst P (sym busy) (refl, refl)

-- what a stream answers
abbrev Taking : Type 0
Taking = Result (Option (Result RequestMessage HeadFault)) TakeError

-- what it hands out was first in it
takes_off : (old new : Incoming) (answer : Taking) → TakesOrLoses old answer new → TakesOff old (taken_of answer) new
takes_off old new (Ok None) takes = takes
takes_off old new (Ok (Some (Ok request))) takes = takes
takes_off old new (Ok (Some (Err fault))) takes = takes
takes_off old new (Err (Memory close _)) takes = takes

module _ (keys : List (List ℕ)) (c : ℕ) (queues : List Queue) where
  pub joins_none : (taken : Taken) → ((t : ℕ) → entering keys c taken t ≡ []) → Joins keys c taken queues queues
  joins_none taken none = λ t.
      nothing_after (slice_get queues t)
      ∙ ap (λ (ws : Queue). option_map (λ (queue : Queue). queue ++ ws) (slice_get queues t)) (sym (none t))

  -- a request joins the queue of its tenant
  pub joins_at : (request : RequestMessage) (place : ℕ) (queue after : Queue) → tenant_of keys request.key ≡ Some place
      → place < length queues → slice_get queues place ≡ Some queue
      → after ≡ queue ++ record { conn = c; request = request } ∷ [] → Joins keys c (Whole request) queues (set queues place after)
  joins_at request place queue after key_is within was after_is = λ t.
      let queued_request : QueuedRequest = record { conn = c; request = request } in
      let behind : Queue → Option Queue = λ ws. option_map (λ (q : Queue). q ++ ws) (slice_get queues t) in
      let enters : entering keys c (Whole request) t ≡ (if place == t then queued_request ∷ [] else []) =
      ap (λ p. entering_of p c t request) key_is in
      ⊎_elim
      (λ same.
      let here : slice_get (set queues place after) t ≡ Some after = ap (slice_get (set queues place after)) same
      ∙ slice_get-set_same queues place after within in
      let there : slice_get queues t ≡ Some queue = ap (slice_get queues) same ∙ was in
      let one : entering keys c (Whole request) t ≡ queued_request ∷ [] = enters ∙ ap (λ b. if b then queued_request ∷ [] else [])
      (eq-eqb place t (sym same)) in
      here ∙ ap Some after_is ∙ ap (λ (o : Option Queue). option_map (λ (q : Queue). q ++ queued_request ∷ []) o)
      (sym there) ∙ ap behind (sym one))
      (λ apart.
      let none : entering keys c (Whole request) t ≡ [] = enters ∙ ap (λ b. if b then queued_request ∷ [] else [])
      (other_number place t (λ e. apart (sym e))) in
      slice_get-set_other queues place t after apart ∙ nothing_after (slice_get queues t) ∙ ap behind (sym none))
      (cases_eq t place)

  pub takes_nothing : (connection : Connection) → is_ready connection ≡ false → (taken : Taken) × TakesNext keys c taken None connection
      connection × Joins keys c taken queues queues
  takes_nothing connection busy = (
    Nothing,
    record { stream = connection.stream; stands = taken_of_busy connection busy; told_is = refl; connection_is = refl },
    joins_none Nothing (λ t. refl),
  )

  pub takes_answer : (connection : Connection) (stream : Incoming) (answer : Taking) (told : Option Tell) (new : Connection)
      (after : List Queue) → is_ready connection ≡ true → TakesOrLoses connection.stream answer stream
      → told ≡ refused_at_once keys c (taken_of answer) → new ≡ connection_after keys (taken_of answer)
      (record connection { stream = stream }) → Joins keys c (taken_of answer) queues after
      → (taken : Taken) × TakesNext keys c taken told connection new × Joins keys c taken queues after
  takes_answer connection stream answer told new after ready takes told_is connection_is joins = (
    taken_of answer,
    record {
      stream = stream;
      stands = taken_of_ready connection (taken_of answer) stream ready (takes_off connection.stream stream answer takes);
      told_is = told_is;
      connection_is = connection_is;
    },
    joins,
  )
