-- Each connection in a whole run.
use Rattle.std.proofs.Common.{◌≡◌, ℕ, zero, suc, Bool, true, false, List, [], ◌∷◌, ◌++◌, refl, sym, ap, subst, ◌∙◌, inl, inr, append_assoc}
use Rattle.std.proofs.Common.{append-nil, ⊎_elim, Option, Some, None}
use Rattle.std.specs.Prelude.{◌||◌, map, MatchBool, option_map, unwrap_or, slice_get}
use Rattle.std.specs.List.{flat_map}
use Rattle.std.proofs.lemmas.Bool.{cases_eq, false≢true}
use Rattle.std.proofs.Math.Bool.{or-false, or_assoc}
use Rattle.ports_http.specs.Messages.{RequestMessage, ReplyMessage}
use Rattle.ports_http.specs.Streams as streams
use Rattle.ports_http.specs.UnreadBytes.{opening_stream}
use Rattle.ports_core.specs.declared.connection.Connection.{Connection}
use Rattle.ports_core.specs.declared.event.Event.{Event}
use Rattle.ports_core.specs.declared.event.Event.TheVariants.{Open, Piece, End, Fault, Wrote, Turn}
use Rattle.ports_core.specs.declared.event.Tell.{Tell}
use Rattle.ports_core.specs.declared.queue.QueuedRequest.{QueuedRequest}
use Rattle.ports_core.specs.Effects.{Effect}
use Rattle.ports_core.specs.Slices.{Queue, waiting_of}
use Rattle.ports_core.specs.Sharing.{Sizes}
use Rattle.ports_core.specs.State.{State, new_state, keys_of, world_at, queue_at, connection_of, pending_at}
use Rattle.ports_core.specs.Runs.{Run}
use Rattle.ports_core.specs.Intake.{Nothing, TakesOff}
use Rattle.ports_core.specs.Conversations.{came_in, came_on, sent_in, sent_on, told_in, told_on, loses, is_lost_in, written}
use Rattle.ports_core.specs.Conversations.{refusal_written, IsLeftOfConnection, IsServedOut, WaitsFor, IsPlainOr503, AreWritten}
use Rattle.ports_core.specs.Conversations.{ConversesPlainly, EachConnectionConverses}
use Rattle.ports_core.proofs.Numbers.{other_number}
use Rattle.ports_core.proofs.Lists.{none_some, some_same}
use Rattle.ports_core.proofs.QueueLemmas.{queued_requests_of}
use Rattle.ports_core.proofs.ChangeLemmas.{IsSeen, seen, slice_parts}
use Rattle.ports_core.proofs.TalkLemmas.{none_came}
use Rattle.ports_core.proofs.ConversesLemmas.{Stands}
use Rattle.ports_core.proofs.ConversingLemmas.{moves}
use Rattle.ports_core.proofs.LostLemmas.{LostAt, ConversesLost, LostMoves, lost_moves, is_lost, waits_for}
use Rattle.ports_core.proofs.PositionLemmas.{EachPlain, each_plain}

-- where a connection is, lost or not
abbrev ConversesSo : Bool → List (List ℕ) → (ℕ → QueuedRequest → ReplyMessage → Type 0) → ℕ → List ℕ → List ℕ → List Tell → State → Type 0
ConversesSo lost keys Plain c came sent tells state = MatchBool lost (ConversesLost keys Plain c came sent tells state)
    (Stands keys Plain c came sent tells state)

-- no event of this kind is another's
only_fault : (keys : List (List ℕ)) (Plain : ℕ → QueuedRequest → ReplyMessage → Type 0) (c : ℕ) (event : Event) (step : Effect)
    (old mid : State) (came sent : List ℕ) (tells : List Tell) → loses c event ≡ true → IsSeen event step.told old mid
    → Stands keys Plain c came sent tells old → ConversesLost keys Plain c (came ++ came_in c event) (sent ++ sent_in c event step)
    (tells ++ told_in c step.told.reply) mid
only_fault keys Plain c (Open d) step old mid came sent tells lost s stands = absurd (false≢true lost)
only_fault keys Plain c (Piece d bytes) step old mid came sent tells lost s stands = absurd (false≢true lost)
only_fault keys Plain c (End d) step old mid came sent tells lost s stands = absurd (false≢true lost)
only_fault keys Plain c (Fault d) step old mid came sent tells lost s stands =
    ⊎_elim
    (λ (same : d ≡ c). is_lost keys Plain c step old mid came sent tells (subst (λ n. IsSeen (Fault n) step.told old mid) same s) stands)
    (λ apart. absurd (false≢true (sym (other_number d c apart) ∙ lost)))
    (cases_eq d c)
only_fault keys Plain c (Wrote d count) step old mid came sent tells lost s stands = absurd (false≢true lost)
only_fault keys Plain c (Turn t) step old mid came sent tells lost s stands = absurd (false≢true lost)

-- one event
moves_so : (was_lost : Bool) (keys : List (List ℕ)) (Plain : ℕ → QueuedRequest → ReplyMessage → Type 0) (c : ℕ) (event : Event)
    (step : Effect) (old mid : State) (came sent : List ℕ) (tells : List Tell)
    → (Stands keys Plain c came sent tells old → loses c event ≡ false → Stands keys Plain c (came ++ came_in c event)
    (sent ++ sent_in c event step) (tells ++ told_in c step.told.reply) mid)
    → LostMoves keys Plain c event step old mid → IsSeen event step.told old mid
    → ConversesSo was_lost keys Plain c came sent tells old → ConversesSo (was_lost || loses c event) keys Plain c (came ++ came_in c event)
    (sent ++ sent_in c event step) (tells ++ told_in c step.told.reply) mid
moves_so true keys Plain c event step old mid came sent tells alive lost s stands = lost came sent tells stands
moves_so false keys Plain c event step old mid came sent tells alive lost s stands =
    elim (loses c event) as (λ b. loses c event ≡ b → ConversesSo b keys Plain c (came ++ came_in c event) (sent ++ sent_in c event step)
    (tells ++ told_in c step.told.reply) mid) [
      | true ↦ λ now. only_fault keys Plain c event step old mid came sent tells now s stands
      | false ↦ λ goes. alive stands goes
    ] refl

-- a whole run, from where the connection was
run_moves : (lost : Bool) (keys : List (List ℕ)) (Plain : ℕ → QueuedRequest → ReplyMessage → Type 0) (c : ℕ) (came sent : List ℕ)
    (tells : List Tell) (events : List Event) (steps : List Effect) (old new : State) → keys_of old ≡ keys
    → (run : Run old events steps new) → EachPlain Plain events steps old new run → ConversesSo lost keys Plain c came sent tells old
    → ConversesSo (lost || is_lost_in c events) keys Plain c (came ++ came_on c events) (sent ++ sent_on c events steps)
    (tells ++ told_on c steps) new
run_moves lost keys Plain c came sent tells [] [] old new keys_are same plain stands =
    subst (λ b. ConversesSo b keys Plain c (came ++ []) (sent ++ []) (tells ++ []) new) (sym (or-false lost))
    (subst (λ (s : State). ConversesSo lost keys Plain c (came ++ []) (sent ++ []) (tells ++ []) s) (sym same)
    (subst (λ bs. ConversesSo lost keys Plain c bs (sent ++ []) (tells ++ []) old) (sym (append-nil came))
    (subst (λ bs. ConversesSo lost keys Plain c came bs (tells ++ []) old) (sym (append-nil sent))
    (subst (λ ts. ConversesSo lost keys Plain c came sent ts old) (sym (append-nil tells)) stands))))
run_moves lost keys Plain c came sent tells [] (step ∷ steps) old new keys_are run plain stands = absurd run
run_moves lost keys Plain c came sent tells (event ∷ events) [] old new keys_are run plain stands = absurd run
run_moves lost keys Plain c came sent tells (event ∷ events) (step ∷ steps) old new keys_are run plain stands =
    let mid = run.0 in
    let h = run.1 in
    let s = seen event step.told old mid h.allowed h.does in
    let now = moves_so lost keys Plain c event step old mid came sent tells
    (λ was goes. moves keys Plain c event step old mid keys_are goes h.allowed h.sent s plain.0 came sent tells was)
    (lost_moves keys Plain c event step old mid h.allowed h.sent s plain.0) s stands in
    let later = run_moves (lost || loses c event) keys Plain c (came ++ came_in c event) (sent ++ sent_in c event step)
    (tells ++ told_in c step.told.reply) events steps mid new
    (s.keys ∙ keys_are) run.2 plain.1 now in
    subst (λ b. ConversesSo b keys Plain c (came ++ came_on c (event ∷ events)) (sent ++ sent_on c (event ∷ events) (step ∷ steps))
    (tells ++ told_on c (step ∷ steps)) new) (or_assoc lost (loses c event) (is_lost_in c events))
    (subst (λ bs. ConversesSo ((lost || loses c event) || is_lost_in c events) keys Plain c bs
    (sent ++ sent_on c (event ∷ events) (step ∷ steps)) (tells ++ told_on c (step ∷ steps)) new)
    (append_assoc came (came_in c event) (came_on c events))
    (subst (λ bs. ConversesSo ((lost || loses c event) || is_lost_in c events) keys Plain c ((came ++ came_in c event) ++ came_on c events)
    bs (tells ++ told_on c (step ∷ steps)) new) (append_assoc sent (sent_in c event step) (sent_on c events steps))
    (subst (λ ts. ConversesSo ((lost || loses c event) || is_lost_in c events) keys Plain c ((came ++ came_in c event) ++ came_on c events)
    ((sent ++ sent_in c event step) ++ sent_on c events steps) ts new)
    (append_assoc tells (told_in c step.told.reply) (told_on c steps)) later)))

-- each tenant begins with an empty queue
new_queue : (keys : List (List ℕ)) (u : ℕ) (queue : Queue) → slice_get (map (λ (key : List ℕ). let none : Queue = [] in none) keys) u
    ≡ Some queue → queue ≡ []
new_queue [] u queue was = absurd (none_some was)
new_queue (key ∷ keys) zero queue was = sym (some_same was)
new_queue (key ∷ keys) (suc u) queue was = new_queue keys u queue was

-- before the first event no connection is open
begins : (keys : List (List ℕ)) (sizes : Sizes) (Plain : ℕ → QueuedRequest → ReplyMessage → Type 0) (c : ℕ)
    → Stands keys Plain c [] [] [] (new_state keys sizes)
begins keys sizes Plain c = inr (record {
  at = refl;
  left = opening_stream;
  talk = none_came keys Plain c [] [] [] opening_stream refl refl refl refl;
  fresh = λ above. (refl, refl);
  idle = λ some. absurd (some refl);
  queued = λ u slice was. ap (queued_requests_of c)
      (new_queue keys u (waiting_of slice)
      (slice_parts (world_at u (new_state keys sizes)) (queue_at u (new_state keys sizes)) slice was).1);
})

module _ (keys : List (List ℕ)) (c : ℕ) (events : List Event) (steps : List Effect) (service : State) where
  -- these bytes are written, and the connection isn't lost
  written_all : is_lost_in c events ≡ false → (sent pending bytes : List ℕ) → sent ++ pending ≡ bytes
      → AreWritten (is_lost_in c events) sent pending bytes
  written_all alive sent pending bytes all = subst (λ b. AreWritten b sent pending bytes) (sym alive) all

  -- where the connection is at the end, as the contract says it
  alive_converses : is_lost_in c events ≡ false → Stands keys (IsPlainOr503 keys events steps) c (came_on c events) (sent_on c events steps)
      (told_on c steps) service → ConversesPlainly keys c events steps service
  alive_converses alive (inl is) = record {
    exchanges = is.is_connection.talk.exchanges;
    end = is.is_connection.talk.end;
    told = is.is_connection.talk.told;
    answers = is.is_connection.talk.answers;
    bytes = written_all alive _ _ _
        (ap (λ (o : Option Connection). sent_on c events steps ++ unwrap_or (option_map (λ (l : Connection). l.pending) o) []) is.at
        ∙ is.is_connection.talk.bytes);
    waits = is.is_connection.waiting;
    cut = is.is_connection.talk.cut;
    served = λ goes some. subst (λ o. IsServedOut o is.is_connection.talk.end) (sym is.at) (is.idle some);
    stays = subst (λ (o : Option Connection). IsLeftOfConnection keys o is.is_connection.waiting is.is_connection.talk.end) (sym is.at) (
      λ here. is.is_connection.talk.left_is,
      waits_for keys is.connection.waits is.is_connection.waiting is.connection.pending
          is.connection.stream.over is.is_connection.holds,
    );
  }
  alive_converses alive (inr is) = record {
    exchanges = is.talk.exchanges;
    end = is.talk.end;
    told = is.talk.told;
    answers = is.talk.answers;
    bytes = written_all alive _ _ _
        (ap (λ (o : Option Connection). sent_on c events steps ++ unwrap_or (option_map (λ (l : Connection). l.pending) o) []) is.at
        ∙ is.talk.bytes);
    waits = [];
    cut = is.talk.cut;
    served = λ goes some. subst (λ o. IsServedOut o is.talk.end) (sym is.at)
        (subst (λ s. TakesOff s Nothing s) is.talk.left_is (is.idle some));
    stays = subst (λ (o : Option Connection). IsLeftOfConnection keys o [] is.talk.end) (sym is.at) refl;
  }

  -- nothing is pending on a lost connection
  lost_pending : (o : Option Connection) (waits : Option ℕ) → LostAt o waits
      → unwrap_or (option_map (λ (l : Connection). l.pending) o) [] ≡ []
  lost_pending None waits at = refl
  lost_pending (Some connection) waits at = at.0.pending

  lost_left : (o : Option Connection) (waits : Option ℕ) (waiting : List RequestMessage) (end : streams.End) → LostAt o waits
      → WaitsFor keys waits waiting → IsLeftOfConnection keys o waiting end
  lost_left None waits waiting end at request = subst (λ w. WaitsFor keys w waiting) at request
  lost_left (Some connection) waits waiting end at request =
      (λ here. absurd (false≢true (sym here ∙ at.0.lost)), subst (λ w. WaitsFor keys w waiting) (sym at.1) request)

  lost_converses : is_lost_in c events ≡ true → ConversesLost keys (IsPlainOr503 keys events steps) c (came_on c events)
      (sent_on c events steps) (told_on c steps) service → ConversesPlainly keys c events steps service
  lost_converses lost is = record {
    exchanges = is.talk.exchanges;
    end = is.talk.end;
    told = is.talk.told;
    answers = is.talk.answers;
    bytes = subst (λ b. AreWritten b (sent_on c events steps) (pending_at c service) (flat_map written is.talk.exchanges ++ refusal_written
        is.talk.end)) (sym lost) (is.talk.front, lost_pending (connection_of c service) is.waits is.at);
    waits = is.waiting;
    cut = is.talk.cut;
    served = λ goes some. absurd (false≢true (sym goes ∙ lost));
    stays = lost_left (connection_of c service) is.waits is.waiting is.talk.end is.at is.request;
  }

-- in a run from the beginning, each connection converses plainly
pub run_converses : EachConnectionConverses
run_converses keys sizes events steps service c run =
    let stands : ConversesSo (is_lost_in c events) keys (IsPlainOr503 keys events steps) c (came_on c events) (sent_on c events steps)
    (told_on c steps) service =
    run_moves false keys (IsPlainOr503 keys events steps) c [] [] [] events steps (new_state keys sizes) service refl run
    (each_plain keys sizes [] events [] steps (new_state keys sizes) service refl run)
    (begins keys sizes (IsPlainOr503 keys events steps) c) in
    elim (is_lost_in c events) as (λ b. is_lost_in c events ≡ b → ConversesSo b keys (IsPlainOr503 keys events steps) c (came_on c events)
    (sent_on c events steps) (told_on c steps) service → ConversesPlainly keys c events steps service) [
      | true ↦ λ lost at. lost_converses keys c events steps service lost at
      | false ↦ λ alive at. alive_converses keys c events steps service alive at
    ] refl stands
