-- Every event, as a connection that isn't lost sees it.
use Rattle.std.proofs.Common.{◌≡◌, ◌≢◌, ◌<◌, ◌≤◌, ◌-◌, ℕ, zero, suc, Bool, true, false, List, [], ◌∷◌, ◌++◌, length, take, drop, refl, sym}
use Rattle.std.proofs.Common.{ap, subst, ◌∙◌, inl, inr, append-nil, arith, eq-eqb, ⊎_elim, Option, Some, None, take-append-drop}
use Rattle.std.specs.Prelude.{◌==◌, map, option_map, option_and_then, unwrap_or, MatchOption, if◌then◌else◌}
use Rattle.std.specs.Prelude.{Vec}
use Rattle.std.specs.declared.alloc.Global.{Global}
use Rattle.std.proofs.lemmas.Bool.{cases_eq}
use Rattle.std.proofs.lemmas.List.{take_all}
use Rattle.ports_http.specs.Messages.{RequestMessage, ReplyMessage}
use Rattle.ports_http.specs.Limits.{unread_limit}
use Rattle.ports_http.specs.UnreadBytes.{opening_stream, fed, room_of}
use Rattle.ports_http.specs.Replies.{reply_text, fault_reply, unknown_key, store_failed}
use Rattle.ports_core.specs.declared.connection.Connection.{Connection}
use Rattle.ports_core.specs.declared.event.Event.{Event}
use Rattle.ports_core.specs.declared.event.Event.TheVariants.{Open, Piece, End, Fault, Wrote, Turn}
use Rattle.ports_core.specs.declared.event.Told.{Told}
use Rattle.ports_core.specs.declared.event.Tell.{Tell}
use Rattle.ports_core.specs.declared.event.Refused.{Refused}
use Rattle.ports_core.specs.declared.queue.QueuedRequest.{QueuedRequest}
use Rattle.ports_core.specs.Effects.{Effect}
use Rattle.ports_core.specs.Keys.{tenant_of}
use Rattle.ports_core.specs.Slices.{Slice, Queue, waiting_of, with_requests}
use Rattle.ports_core.specs.Connections.{new_connection, hears, answered, kept, is_ready, room_on, count_off, MayHappenTo}
use Rattle.ports_core.specs.Tell.{at_once, in_turn}
use Rattle.ports_core.specs.Intake.{Taken, Nothing, Whole, Refusal, Lost, TakesOff, IsTaken, connection_after, told_of_tenant}
use Rattle.ports_core.specs.Intake.{refused_at_once, entering}
use Rattle.ports_core.specs.State.{State, keys_of, slice_of, connection_of, book_of, next_of, IsAllowed}
use Rattle.ports_core.specs.Changes.{KeepsSlices, FirstLeaves, ChangesSlices}
use Rattle.ports_core.specs.Books.{HearsOn, TellsOn, BookTurns}
use Rattle.ports_core.specs.Runs.{sent_by}
use Rattle.ports_core.specs.Opened.{OpenAnd, KeepsConnections, KeepsOthers}
use Rattle.ports_core.specs.Conversations.{came_in, sent_in, told_in, loses, IsAnsweredOn}
use Rattle.ports_core.proofs.Numbers.{other_number}
use Rattle.ports_core.proofs.TalkLemmas.{Talk, talk_fed, talk_quiet, talk_sent, talk_answered}
use Rattle.ports_core.proofs.Lists.{none_some, some_same, option_from}
use Rattle.ports_core.proofs.QueueLemmas.{queued_requests_of, queued_request, queued_requests_at, queued_requests_after}
use Rattle.ports_core.proofs.ChangeLemmas.{IsSeen}
use Rattle.ports_core.proofs.ConversesLemmas.{Queued, Holds, IsConnection, Stands, settles, reply_waits, idle_after, told_here, told_there}
use Rattle.ports_core.proofs.ConversesLemmas.{takes}

pub no_length : (bytes : List ℕ) → length bytes ≤ 0 → bytes ≡ []
no_length [] e = refl
no_length (b ∷ bytes) e = absurd (omega arith)

pub drop_nil : (n : ℕ) → ◌≡◌ {A = List ℕ} (drop n []) []
drop_nil zero = refl
drop_nil (suc n) = refl

-- the request waits on, while nothing is pending
holds_on : (keys : List (List ℕ)) (waits : Option ℕ) (waiting : List RequestMessage) (old new : List ℕ) (over : Bool)
    → (old ≡ [] → new ≡ []) → Holds keys waits waiting old over → Holds keys waits waiting new over
holds_on keys None waiting old new over stays holds = holds
holds_on keys (Some t) waiting old new over stays (request, one, key_is, none, over_is) = (request, one, key_is, stays none, over_is)

-- what an event does to a connection before something is taken off it
module _ (keys : List (List ℕ)) (Plain : ℕ → QueuedRequest → ReplyMessage → Type 0) (c : ℕ) (came sent : List ℕ) (tells : List Tell)
    (connection : Connection) (state : State) (is : IsConnection keys Plain c came sent tells connection state) where
  fed_none : fed connection.stream [] ≡ connection.stream
  fed_none = ap (λ u. record connection.stream { unread = u }) (append-nil connection.stream.unread)

  -- bytes come
  heard_bytes : (bytes : List ℕ) → connection.ended ≡ false → length bytes ≤ room_on connection → Talk keys Plain c (came ++ bytes) sent
      tells connection.pending is.waiting (fed connection.stream bytes)
  heard_bytes bytes goes_on room =
      elim (connection.stream.over) as (λ b. connection.stream.over ≡ b → Talk keys Plain c (came ++ bytes) sent tells connection.pending
      is.waiting (fed connection.stream bytes)) [
        | true ↦ λ over.
            let no_room : room_on connection ≡ 0 =
            ap (λ b. if b then 0 else room_of connection.stream) goes_on
            ∙ ap (λ b. if b then 0 else unread_limit - length connection.stream.unread) over in
            let none : bytes ≡ [] = no_length bytes (subst (λ n. length bytes ≤ n) no_room room) in
            subst (λ bs. Talk keys Plain c (came ++ bs) sent tells connection.pending is.waiting (fed connection.stream bs)) (sym none)
            (subst (λ s. Talk keys Plain c (came ++ []) sent tells connection.pending is.waiting s) (sym fed_none)
            (talk_quiet keys Plain c came sent tells connection.pending is.waiting connection.stream is.talk))
        | false ↦ λ goes. talk_fed keys Plain c came sent tells connection.pending is.waiting connection.stream bytes goes is.talk
      ] refl

  -- bytes are written
  heard_write : (front back : List ℕ) → front ++ back ≡ connection.pending → (connection.pending ≡ [] → back ≡ [])
      → IsConnection keys Plain c came (sent ++ front) tells (record connection { pending = back }) state
  heard_write front back parts stays = record {
    alive = is.alive;
    waiting = is.waiting;
    talk = talk_sent keys Plain c came sent tells front back is.waiting connection.stream
        (subst (λ p. Talk keys Plain c came sent tells p is.waiting connection.stream) (sym parts) is.talk);
    holds = holds_on keys connection.waits is.waiting connection.pending back connection.stream.over stays is.holds;
    queued = is.queued;
  }

-- an event brings and takes so much, and the connection is then so
abbrev pub IsHeard : List (List ℕ) → (ℕ → QueuedRequest → ReplyMessage → Type 0) → ℕ → Event → Effect → State → Type 0
IsHeard keys Plain c event step old = (came sent : List ℕ) (tells : List Tell) (connection : Connection) → MayHappenTo event connection
    → connection_of c old ≡ Some connection → IsConnection keys Plain c came sent tells connection old
    → IsConnection keys Plain c (came ++ came_in c event) (sent ++ sent_in c event step) tells (hears event connection) old

here : {X : Type 0} (c : ℕ) (xs : List X) → (if c == c then xs else []) ≡ xs
here c xs = ap (λ b. if b then xs else []) (eq-eqb c c refl)

module _ (keys : List (List ℕ)) (Plain : ℕ → QueuedRequest → ReplyMessage → Type 0) (c : ℕ) (step : Effect) (old : State) where
  nothing_came : (came sent : List ℕ) (tells : List Tell) (connection : Connection) → IsConnection keys Plain c came sent tells connection
      old → IsConnection keys Plain c (came ++ []) sent tells connection old
  nothing_came came sent tells connection is = subst (λ bs. IsConnection keys Plain c bs sent tells connection old)
      (sym (append-nil came)) is

  nothing_sent : (came sent : List ℕ) (tells : List Tell) (connection : Connection) → IsConnection keys Plain c came sent tells connection
      old → IsConnection keys Plain c came (sent ++ []) tells connection old
  nothing_sent came sent tells connection is = subst (λ bs. IsConnection keys Plain c came bs tells connection old)
      (sym (append-nil sent)) is

  heard_piece : (bytes : Vec ℕ Global) → IsHeard keys Plain c (Piece c bytes) step old
  heard_piece bytes came sent tells connection fits at is =
      let after : Connection = record connection { stream = fed connection.stream bytes.items } in
      let came_is : IsConnection keys Plain c (came ++ bytes.items) sent tells after old = record {
        alive = is.alive;
        waiting = is.waiting;
        talk = heard_bytes keys Plain c came sent tells connection old is bytes.items fits.0 fits.1;
        holds = is.holds;
        queued = is.queued;
      } in
      nothing_sent (came ++ came_in c (Piece c bytes)) sent tells after
      (subst (λ bs. IsConnection keys Plain c (came ++ bs) sent tells after old) (sym (here c bytes.items)) came_is)

  heard_end : IsHeard keys Plain c (End c) step old
  heard_end came sent tells connection fits at is =
      let after : Connection = record connection { ended = true } in
      let same : IsConnection keys Plain c came sent tells after old = record {
        alive = is.alive;
        waiting = is.waiting;
        talk =
            is.talk;
        holds = is.holds;
        queued = is.queued;
      } in
      nothing_came came (sent ++ []) tells after (nothing_sent came sent tells after same)

  -- the bytes that are written are those that were pending first
  pub sent_first : (count : Option ℕ) (connection : Connection) → connection_of c old ≡ Some connection
      → step.sent ≡ sent_by (Wrote c count) old
      → sent_in c (Wrote c count) step ≡ take (count_off count connection.pending) connection.pending
  sent_first count connection at sent_is =
      here c step.sent ∙ sent_is
      ∙ ap (λ (o : Option Connection). let bytes = unwrap_or (option_map (λ (l : Connection). l.pending) o) [] in take
      (count_off count bytes) bytes) at

  heard_wrote : (count : Option ℕ) → step.sent ≡ sent_by (Wrote c count) old → IsHeard keys Plain c (Wrote c count) step old
  heard_wrote None sent_is came sent tells connection fits at is =
      let all : take (length connection.pending) connection.pending ≡ connection.pending = take_all (length connection.pending)
      connection.pending (omega arith) in
      let front : sent_in c (Wrote c None) step ≡ connection.pending = sent_first None connection at sent_is ∙ all in
      let after : Connection = record connection { pending = [] } in
      nothing_came came (sent ++ sent_in c (Wrote c None) step) tells after
      (subst (λ bs. IsConnection keys Plain c came (sent ++ bs) tells after old) (sym front)
      (heard_write keys Plain c came sent tells connection old is connection.pending [] (append-nil connection.pending) (λ none. refl)))
  heard_wrote (Some count) sent_is came sent tells connection fits at is =
      let front : sent_in c (Wrote c (Some count)) step ≡ take count connection.pending = sent_first (Some count) connection at sent_is in
      let after : Connection = record connection { pending = drop count connection.pending } in
      nothing_came came (sent ++ sent_in c (Wrote c (Some count)) step) tells after
      (subst (λ bs. IsConnection keys Plain c came (sent ++ bs) tells after old) (sym front)
      (heard_write keys Plain c came sent tells connection old is (take count connection.pending) (drop count connection.pending)
      (take-append-drop count connection.pending) (λ none. ap (drop count) none ∙ drop_nil count)))

-- what an event does to what was asked and told on the connection
abbrev pub Moves : List (List ℕ) → (ℕ → QueuedRequest → ReplyMessage → Type 0) → ℕ → Event → Effect → State → State → Type 0
Moves keys Plain c event step old mid = (came sent : List ℕ) (tells : List Tell) → Stands keys Plain c came sent tells old
    → Stands keys Plain c (came ++ came_in c event) (sent ++ sent_in c event step) (tells ++ told_in c step.told.reply) mid

-- nothing happens to the connection
pub record Untouched (c : ℕ) (event : Event) (step : Effect) (old mid : State) : Type 0 where
  pub came : came_in c event ≡ []
  pub sent : sent_in c event step ≡ []
  pub told : told_in c step.told.reply ≡ []
  pub connection : connection_of c mid ≡ connection_of c old
  pub next : next_of old ≤ next_of mid
  pub queues : (u : ℕ) (slice : Slice) → slice_of u mid ≡ Some slice → (before : Slice) × (slice_of u old ≡ Some before)
      × (queued_requests_of c (waiting_of slice) ≡ queued_requests_of c (waiting_of before))

module _ (keys : List (List ℕ)) (Plain : ℕ → QueuedRequest → ReplyMessage → Type 0) (c : ℕ) (event : Event)
    (step : Effect) (old mid : State) where
  queued_on : (h : Untouched c event step old mid) (waits : Option ℕ) (waiting : List RequestMessage) → Queued c old waits waiting
      → Queued c mid waits waiting
  queued_on h waits waiting queued u slice was = let before = h.queues u slice was in before.2 ∙ queued u before.0 before.1

  stands_on : Untouched c event step old mid → (came sent : List ℕ) (tells : List Tell) → Stands keys Plain c came sent tells old
      → Stands keys Plain c came sent tells mid
  stands_on h came sent tells (inl is) = inl (record {
    connection = is.connection;
    at = h.connection ∙ is.at;
    below = omega (arith, is.below, h.next);
    idle = is.idle;
    is_connection = record {
      alive = is.is_connection.alive;
      waiting = is.is_connection.waiting;
      talk = is.is_connection.talk;
      holds = is.is_connection.holds;
      queued = queued_on h is.connection.waits is.is_connection.waiting is.is_connection.queued;
    };
  })
  stands_on h came sent tells (inr is) = inr (record {
    at = h.connection ∙ is.at;
    left = is.left;
    talk = is.talk;
    fresh = λ above. is.fresh (omega (arith, above, h.next));
    idle = is.idle;
    queued = queued_on h None [] is.queued;
  })

  untouched : Untouched c event step old mid → Moves keys Plain c event step old mid
  untouched h came sent tells stands =
      subst (λ bs. Stands keys Plain c bs (sent ++ sent_in c event step) (tells ++ told_in c step.told.reply) mid)
      (sym (ap (λ bs. came ++ bs) h.came ∙ append-nil came))
      (subst (λ bs. Stands keys Plain c came bs (tells ++ told_in c step.told.reply) mid)
      (sym (ap (λ bs. sent ++ bs) h.sent ∙ append-nil sent))
      (subst (λ ts. Stands keys Plain c came sent ts mid) (sym (ap (λ ts. tells ++ ts) h.told ∙ append-nil tells))
      (stands_on h came sent tells stands)))

-- where nothing is taken, nothing enters
pub none_enters : (keys : List (List ℕ)) (d : ℕ) (told : Told) (taken : Taken) (old mid : State) → KeepsSlices told taken old mid → (u : ℕ)
    → slice_of u mid ≡ option_map (with_requests (entering keys d taken u)) (slice_of u old)
none_enters keys d told taken old mid rests u =
    rests.slices u ∙ as_it_was (slice_of u old)
    ∙ ap (λ k. option_map (with_requests (entering keys d k u)) (slice_of u old)) (sym rests.nothing)
  where
    as_it_was : (o : Option Slice) → o ≡ option_map (with_requests []) o
    as_it_was None = refl
    as_it_was (Some slice) = ap (λ (ws : List QueuedRequest). let s : Slice = (slice.0, ws) in Some s) (sym (append-nil slice.1))

-- queues that stay as they were
pub same_queues : (c : ℕ) (old mid : State) → ((u : ℕ) → slice_of u mid ≡ slice_of u old) → (u : ℕ) (slice : Slice)
    → slice_of u mid ≡ Some slice
    → (before : Slice) × (slice_of u old ≡ Some before)
    × (queued_requests_of c (waiting_of slice) ≡ queued_requests_of c (waiting_of before))
same_queues c old mid slices u slice was = (slice, sym (slices u) ∙ was, refl)

-- the connection itself hears something
hears_moves : (keys : List (List ℕ)) (Plain : ℕ → QueuedRequest → ReplyMessage → Type 0) (c : ℕ) (event : Event) (step : Effect)
    (taken : Taken) (old mid : State) → keys_of old ≡ keys → OpenAnd (connection_of c old) (MayHappenTo event)
    → IsHeard keys Plain c event step old
    → HearsOn (keys_of old) event c step.told taken (book_of old) (book_of mid)
    → ((u : ℕ) → slice_of u mid ≡ option_map (with_requests (entering (keys_of old) c taken u)) (slice_of u old))
    → next_of old ≤ next_of mid
    → Moves keys Plain c event step old mid
hears_moves keys Plain c event step taken old mid keys_are allowed heard h enters next came sent tells (inr is) =
    absurd (none_some (sym is.at ∙ h.was_open))
hears_moves keys Plain c event step taken old mid keys_are allowed heard h enters next came sent tells (inl is) =
    let connection_is : h.connection ≡ is.connection = some_same (sym h.was_open ∙ is.at) in
    let fits : MayHappenTo event is.connection = subst (λ (o : Option Connection). OpenAnd o (MayHappenTo event)) is.at allowed in
    let now = heard came sent tells is.connection fits is.at is.is_connection in
    let stream = h.takes.stream in
    let stands = subst (λ l. IsTaken (hears event l) taken stream) connection_is h.takes.stands in
    let slices = λ (u : ℕ). enters u ∙ ap (λ ks. option_map (with_requests (entering ks c taken u)) (slice_of u old)) keys_are in
    let took = takes keys Plain c (came ++ came_in c event) (sent ++ sent_in c event step) tells (hears event is.connection) old mid now
    stream taken stands slices in
    let after_is : connection_after keys taken (record (hears event is.connection) { stream = stream }) ≡ h.after =
    sym (h.takes.connection_is ∙ ap (λ ks. connection_after ks taken (record (hears event h.connection) { stream = stream })) keys_are
    ∙ ap (λ l. connection_after keys taken (record (hears event l) { stream = stream })) connection_is) in
    let told_is : told_in c (refused_at_once keys c taken) ≡ told_in c step.told.reply =
    ap (told_in c) (sym (h.takes.told_is ∙ ap (λ ks. refused_at_once ks c taken) keys_are)) in
    settles keys Plain c (came ++ came_in c event) (sent ++ sent_in c event step) (tells ++ told_in c step.told.reply) h.after mid
    h.connection_is (omega (arith, next, is.below))
    (λ came_some. subst (λ l. is_ready l ≡ true → TakesOff l.stream Nothing l.stream) after_is
    (idle_after keys (hears event is.connection) taken stream stands))
    (subst (λ ts. IsConnection keys Plain c (came ++ came_in c event) (sent ++ sent_in c event step) (tells ++ ts) h.after mid) told_is
    (subst (λ l. IsConnection keys Plain c (came ++ came_in c event) (sent ++ sent_in c event step)
    (tells ++ told_in c (refused_at_once keys c taken)) l mid) after_is took))

-- what is told at once goes to the connection that asked
told_of : (c d : ℕ) (place : Option ℕ) → d ≢ c → told_in c (told_of_tenant d place) ≡ []
told_of c d None apart = told_there c (at_once d unknown_key) apart
told_of c d (Some tenant) apart = refl

told_by : (keys : List (List ℕ)) (c d : ℕ) (taken : Taken) → d ≢ c → told_in c (refused_at_once keys d taken) ≡ []
told_by keys c d Nothing apart = refl
told_by keys c d (Whole request) apart = told_of c d (tenant_of keys request.key) apart
told_by keys c d (Refusal fault) apart = told_there c (at_once d (fault_reply fault)) apart
told_by keys c d (Lost close) apart = told_there c (at_once d store_failed) apart

-- another connection hears something
pub hears_untouched : (c d : ℕ) (event : Event) (step : Effect) (taken : Taken) (old mid : State) → d ≢ c → came_in c event ≡ []
    → sent_in c event step ≡ []
    → HearsOn (keys_of old) event d step.told taken (book_of old) (book_of mid)
    → ((u : ℕ) → slice_of u mid ≡ option_map (with_requests (entering (keys_of old) d taken u)) (slice_of u old))
    → next_of old ≤ next_of mid
    → Untouched c event step old mid
hears_untouched c d event step taken old mid apart no_bytes none_sent h enters next = record {
  came = no_bytes;
  sent = none_sent;
  told = ap (told_in c) h.takes.told_is ∙ told_by (keys_of old) c d taken apart;
  connection = h.others c (λ e. apart (sym e));
  next = next;
  queues = λ u slice was.
      let from = option_from (with_requests (entering (keys_of old) d taken u)) (slice_of u old) slice (sym (enters u) ∙ was) in (
        from.0,
        from.1,
        ap (λ (s : Slice). queued_requests_of c (waiting_of s)) (sym from.2) ∙ queued_requests_after (keys_of old) c d taken
            u (waiting_of from.0) apart,
      );
}

-- no connection and no slice changes, and nothing is told
pub rests_untouched : (c : ℕ) (event : Event) (step : Effect) (taken : Taken) (old mid : State) → came_in c event ≡ []
    → sent_in c event step ≡ []
    → KeepsSlices step.told taken old mid → connection_of c mid ≡ connection_of c old → next_of old ≤ next_of mid
    → Untouched c event step old mid
rests_untouched c event step taken old mid no_bytes none_sent rests connection next = record {
  came = no_bytes;
  sent = none_sent;
  told = ap (told_in c) rests.silent;
  connection = connection;
  next = next;
  queues = same_queues c old mid rests.slices;
}

-- the connection itself opens
opened : (keys : List (List ℕ)) (Plain : ℕ → QueuedRequest → ReplyMessage → Type 0) (c d : ℕ) (step : Effect) (taken : Taken)
    (old mid : State) → c ≡ d → d ≡ next_of old → d < next_of mid → connection_of d mid ≡ Some new_connection
    → KeepsSlices step.told taken old mid → Moves keys Plain c (Open d) step old mid
opened keys Plain c d step taken old mid here is_next below connection_is rests came sent tells (inl is) =
    absurd (omega (arith, is.below, is_next, here))
opened keys Plain c d step taken old mid here is_next below connection_is rests came sent tells (inr is) =
    let fresh = is.fresh (omega (arith, is_next, here)) in
    let talk : Talk keys Plain c came sent tells [] [] opening_stream =
    subst (λ s. Talk keys Plain c came sent tells [] [] s) fresh.0 is.talk in
    let told : told_in c step.told.reply ≡ [] = ap (told_in c) rests.silent in
    let stands : Stands keys Plain c came sent tells mid = inl (record {
      connection = new_connection;
      at = ap (λ n. connection_of n mid) here ∙ connection_is;
      below = omega (arith, below, here);
      idle = λ some. absurd (some fresh.1);
      is_connection = record {
        alive = refl;
        waiting = [];
        talk = talk;
        holds = refl;
        queued = λ u slice was. is.queued u slice (sym (rests.slices u) ∙ was);
      };
    }) in
    subst (λ bs. Stands keys Plain c bs (sent ++ []) (tells ++ told_in c step.told.reply) mid) (sym (append-nil came))
    (subst (λ bs. Stands keys Plain c came bs (tells ++ told_in c step.told.reply) mid) (sym (append-nil sent))
    (subst (λ ts. Stands keys Plain c came sent ts mid) (sym (ap (λ ts. tells ++ ts) told ∙ append-nil tells)) stands))

-- a connection opens
opens_move : (keys : List (List ℕ)) (Plain : ℕ → QueuedRequest → ReplyMessage → Type 0) (c d : ℕ) (step : Effect) (old mid : State)
    → IsSeen (Open d) step.told old mid → Moves keys Plain c (Open d) step old mid
opens_move keys Plain c d step old mid s =
    let P : Option Refused → Type 0 = λ refused. MatchOption refused ((connection_of d mid ≡ Some new_connection)
    × KeepsOthers d (book_of old) (book_of mid)) (λ why. KeepsConnections (book_of old) (book_of mid)) in
    elim (step.told.refused) as (λ refused. step.told.refused ≡ refused → P refused → Moves keys Plain c (Open d) step old mid) [
      | None ↦ λ none book. ⊎_elim
          (λ here. opened keys Plain c d step s.taken old mid here s.numbers.0 (s.numbers.1 none) book.0 s.changes)
          (λ apart. untouched keys Plain c (Open d) step old mid (rests_untouched c (Open d) step s.taken old mid refl refl s.changes
          (book.1 c apart) s.next))
          (cases_eq c d)
      | Some why ↦ λ some book. untouched keys Plain c (Open d) step old mid (rests_untouched c (Open d) step s.taken old mid refl refl
          s.changes (book c) s.next)
    ] refl s.books.1

pub some_not_none : {X : Type 0} {x : X} {xs : List X} → x ∷ xs ≡ [] → ⊥
some_not_none e = cc

pub first_same : {X : Type 0} (x y : X) (ys : List X) → x ∷ [] ≡ y ∷ ys → x ≡ y
first_same x y ys e = cc

pub rest_none : {X : Type 0} (x y : X) (ys : List X) → x ∷ [] ≡ y ∷ ys → ys ≡ []
rest_none x y ys e = cc

-- the first of a queue is first among the connection's, if it is one of them
pub first_in_queue : (c : ℕ) (queue : Queue) (first : QueuedRequest) (rest : List QueuedRequest) → queue ≡ first ∷ rest → first.conn ≡ c
    → first ∷ queued_requests_of c rest ≡ queued_requests_of c queue
first_in_queue c queue first rest waited here =
    ap (λ b. if b then first ∷ queued_requests_of c rest else queued_requests_of c rest) (sym (eq-eqb first.conn c here))
    ∙ ap (queued_requests_of c) (sym waited)

-- a turn that answers another connection
pub answered_there : (c t : ℕ) (step : Effect) (taken : Taken) (old mid : State) (h : FirstLeaves t step.told taken old mid)
    → TellsOn h.tell (book_of old) (book_of mid) → next_of old ≤ next_of mid
    → h.first.conn ≢ c → Untouched c (Turn t) step old mid
answered_there c t step taken old mid h tells next apart = record {
  came = refl;
  sent = refl;
  told = ap (told_in c) h.told_is ∙ told_there c h.tell (λ e. apart (sym h.to_asker ∙ e));
  connection = tells.others c (λ e. apart (sym h.to_asker ∙ sym e));
  next = next;
  queues = λ u slice was.
      ⊎_elim (λ same.
      let here : slice ≡ (h.world, h.rest) = some_same (sym was ∙ ap (λ n. slice_of n mid) same ∙ h.slice_is) in (
        h.slice,
        ap (λ n. slice_of n old) same ∙ h.was,
        ap (λ (s : Slice). queued_requests_of c (waiting_of s)) here
            ∙ ap (λ b. if b then h.first ∷ queued_requests_of c h.rest else queued_requests_of c h.rest)
            (sym (other_number h.first.conn c apart))
            ∙ ap (queued_requests_of c) (sym h.waited),
      ))
      (λ other. (slice, sym (h.others u other) ∙ was, refl)) (cases_eq u t);
}

-- the first waiting request of a queue is the connection's, so its request waits there, alone
pub first_waits : (c t : ℕ) (waits : Option ℕ) (waiting : List RequestMessage) (first : QueuedRequest) (rest : List QueuedRequest)
    → first ∷ rest ≡ queued_requests_at c t waits waiting
    → (waits ≡ Some t) × (map (queued_request c) waiting ≡ first ∷ rest)
first_waits c t None waiting first rest e = absurd (some_not_none e)
first_waits c t (Some u) waiting first rest e =
    ⊎_elim (λ same. (ap Some same, sym (e ∙ ap (λ b. if b then map (queued_request c) waiting else []) (eq-eqb u t same))))
    (λ apart. absurd (some_not_none (e ∙ ap (λ b. if b then map (queued_request c) waiting else []) (other_number u t apart))))
    (cases_eq u t)

-- the request that waited, alone, is answered plainly
pub answers_in_turn : (keys : List (List ℕ)) (Plain : ℕ → QueuedRequest → ReplyMessage → Type 0) (c t : ℕ) (request : RequestMessage)
    (first : QueuedRequest) (rest : List QueuedRequest) (reply : ReplyMessage) → tenant_of keys request.key ≡ Some t
    → queued_request c request ∷ [] ≡ first ∷ queued_requests_of c rest → Plain t first reply
    → IsAnsweredOn keys Plain c (record { request = request; tell = in_turn t c reply })
answers_in_turn keys Plain c t request first rest reply key_is alone plain =
    let tell : Tell = in_turn t c reply in
    let same : queued_request c request ≡ first = first_same (queued_request c request) first (queued_requests_of c rest) alone in
    inr (subst (λ (o : Option ℕ). MatchOption o (tell ≡ at_once c unknown_key) (λ tenant. (tell ≡ in_turn tenant c tell.reply)
    × Plain tenant (queued_request c request) tell.reply)) (sym key_is)
    (refl, subst (λ w. Plain t w reply) (sym same) plain))

-- a turn that answers the connection's request
answered_here : (keys : List (List ℕ)) (Plain : ℕ → QueuedRequest → ReplyMessage → Type 0) (c t : ℕ) (step : Effect) (taken : Taken)
    (old mid : State) (h : FirstLeaves t step.told taken old mid) → TellsOn h.tell (book_of old) (book_of mid) → next_of old ≤ next_of mid
    → Plain t h.first h.tell.reply → h.first.conn ≡ c → Moves keys Plain c (Turn t) step old mid
answered_here keys Plain c t step taken old mid h book next plain here came sent tells (inr is) =
    absurd (some_not_none (first_in_queue c (waiting_of h.slice) h.first h.rest h.waited here ∙ is.queued t h.slice h.was))
answered_here keys Plain c t step taken old mid h book next plain here came sent tells (inl is) =
    let connection = is.connection in
    let reply = h.tell.reply in
    let conn_is : h.tell.conn ≡ c = h.to_asker ∙ here in
    let first = first_waits c t connection.waits is.is_connection.waiting h.first (queued_requests_of c h.rest)
    (first_in_queue c (waiting_of h.slice) h.first h.rest h.waited here ∙ is.is_connection.queued t h.slice h.was) in
    let holds : Holds keys (Some t) is.is_connection.waiting connection.pending connection.stream.over =
    subst (λ w. Holds keys w is.is_connection.waiting connection.pending connection.stream.over) first.0 is.is_connection.holds in
    let request = holds.0 in
    let alone : queued_requests_of c h.rest ≡ [] = rest_none (queued_request c request) h.first (queued_requests_of c h.rest)
    (ap (map (queued_request c)) (sym holds.1) ∙ first.1) in
    let tell : Tell = in_turn t c reply in
    let tell_is : h.tell ≡ tell =
    ap (λ p. let x : Tell = record { tenant = p; conn = h.tell.conn; reply = reply } in x) h.of_tenant
    ∙ ap (λ d. let x : Tell = record { tenant = Some t; conn = d; reply = reply } in x) conn_is in
    let answers : IsAnsweredOn keys Plain c (record { request = request; tell = tell }) = answers_in_turn keys Plain c t request h.first
    h.rest reply holds.2 (ap (map (queued_request c)) (sym holds.1) ∙ first.1) plain in
    let talk : Talk keys Plain c came sent tells [] (request ∷ []) connection.stream =
    subst (λ ws. Talk keys Plain c came sent tells [] ws connection.stream) holds.1
    (subst (λ p. Talk keys Plain c came sent tells p is.is_connection.waiting connection.stream) holds.3 is.is_connection.talk) in
    let after : Connection = answered reply connection in
    let pending : after.pending ≡ reply_text reply request.close =
    ap (λ b. if b then connection.pending else reply_text reply connection.stream.over) is.is_connection.alive
    ∙ ap (reply_text reply) holds.4 in
    let told : told_in c step.told.reply ≡ tell ∷ [] =
    ap (told_in c) h.told_is ∙ ap (λ (x : Tell). told_in c (Some x)) tell_is ∙ told_here c tell refl in
    let is_connection : IsConnection keys Plain c came sent (tells ++ tell ∷ []) after mid = record {
      alive = is.is_connection.alive;
      waiting = [];
      talk = subst (λ p. Talk keys Plain c came sent (tells ++ tell ∷ []) p [] connection.stream) (sym pending)
          (talk_answered keys Plain c came sent tells connection.stream request tell answers talk);
      holds = refl;
      queued = λ u slice was.
          ⊎_elim (λ same.
          let slice_is : slice ≡ (h.world, h.rest) = some_same (sym was ∙ ap (λ n. slice_of n mid) same ∙ h.slice_is) in
          ap (λ (s : Slice). queued_requests_of c (waiting_of s)) slice_is ∙ alone)
          (λ other. is.is_connection.queued u slice (sym (h.others u other) ∙ was)
          ∙ ap (λ w. queued_requests_at c u w is.is_connection.waiting) first.0
          ∙ ap (λ b. if b then map (queued_request c) is.is_connection.waiting else []) (other_number t u (λ e. other (sym e))))
          (cases_eq u t);
    } in
    let at : connection_of c mid ≡ kept after =
    ap (λ d. connection_of d mid) (sym conn_is) ∙ book.connection_is
    ∙ ap (λ d. option_and_then kept (option_map (answered reply) (connection_of d old))) conn_is
    ∙ ap (λ (o : Option Connection). option_and_then kept (option_map (answered reply) o)) is.at in
    let stands : Stands keys Plain c came sent (tells ++ tell ∷ []) mid = settles keys Plain c came sent (tells ++ tell ∷ []) after mid at
    (omega (arith, next, is.below))
    (λ some ready. absurd (reply_waits after reply request.close pending ready)) is_connection in
    subst (λ bs. Stands keys Plain c bs (sent ++ []) (tells ++ told_in c step.told.reply) mid) (sym (append-nil came))
    (subst (λ bs. Stands keys Plain c came bs (tells ++ told_in c step.told.reply) mid) (sym (append-nil sent))
    (subst (λ ts. Stands keys Plain c came sent (tells ++ ts) mid) (sym told) stands))

-- the reply that a turn tells is plain
abbrev pub EachIsPlain : (ℕ → QueuedRequest → ReplyMessage → Type 0) → Event → Effect → State → State → Type 0
EachIsPlain Plain event step old mid = (t : ℕ) (taken : Taken) (h : FirstLeaves t step.told taken old mid) → event ≡ Turn t
    → Plain t h.first h.tell.reply

-- a turn of a tenant
turns_move : (keys : List (List ℕ)) (Plain : ℕ → QueuedRequest → ReplyMessage → Type 0) (c t : ℕ) (step : Effect) (taken : Taken)
    (old mid : State) → ChangesSlices (Turn t) step.told taken old mid → BookTurns step.told (book_of old) (book_of mid)
    → next_of old ≤ next_of mid → EachIsPlain Plain (Turn t) step old mid
    → Moves keys Plain c (Turn t) step old mid
turns_move keys Plain c t step taken old mid (inl rests) book next plain =
    let connections : KeepsConnections (book_of old) (book_of mid) =
    subst (λ (reply : Option Tell). MatchOption reply (KeepsConnections (book_of old) (book_of mid))
    (λ tell. TellsOn tell (book_of old) (book_of mid))) rests.silent book in
    untouched keys Plain c (Turn t) step old mid (rests_untouched c (Turn t) step taken old mid refl refl rests (connections c) next)
turns_move keys Plain c t step taken old mid (inr h) book next plain =
    let tells : TellsOn h.tell (book_of old) (book_of mid) =
    subst (λ (reply : Option Tell). MatchOption reply (KeepsConnections (book_of old) (book_of mid))
    (λ tell. TellsOn tell (book_of old) (book_of mid))) h.told_is book in
    ⊎_elim (λ here. answered_here keys Plain c t step taken old mid h tells next (plain t taken h refl) here)
    (λ apart. untouched keys Plain c (Turn t) step old mid (answered_there c t step taken old mid h tells next apart))
    (cases_eq h.first.conn c)

-- an event of an open connection, this one or another
heard_move : (keys : List (List ℕ)) (Plain : ℕ → QueuedRequest → ReplyMessage → Type 0) (c d : ℕ) (event : Event) (step : Effect)
    (taken : Taken) (old mid : State) → keys_of old ≡ keys → OpenAnd (connection_of d old) (MayHappenTo event)
    → IsHeard keys Plain d event step old
    → (d ≢ c → came_in c event ≡ []) → (d ≢ c → sent_in c event step ≡ [])
    → HearsOn (keys_of old) event d step.told taken (book_of old) (book_of mid)
    → ((u : ℕ) → slice_of u mid ≡ option_map (with_requests (entering (keys_of old) d taken u)) (slice_of u old))
    → next_of old ≤ next_of mid
    → Moves keys Plain c event step old mid
heard_move keys Plain c d event step taken old mid keys_are allowed heard no_bytes none_sent h enters next =
    ⊎_elim (λ same. subst (λ n. Moves keys Plain n event step old mid) same (hears_moves keys Plain d event step taken old mid keys_are
    allowed heard h enters next))
    (λ apart. untouched keys Plain c event step old mid (hears_untouched c d event step taken old mid apart (no_bytes apart)
    (none_sent apart) h enters next))
    (cases_eq d c)

-- any event that is allowed
pub moves : (keys : List (List ℕ)) (Plain : ℕ → QueuedRequest → ReplyMessage → Type 0) (c : ℕ) (event : Event) (step : Effect)
    (old mid : State) → keys_of old ≡ keys → loses c event ≡ false → IsAllowed event old → step.sent ≡ sent_by event old
    → IsSeen event step.told old mid → EachIsPlain Plain event step old mid
    → Moves keys Plain c event step old mid
moves keys Plain c (Open d) step old mid keys_are alive allowed sent s plain = opens_move keys Plain c d step old mid s
moves keys Plain c (Turn t) step old mid keys_are alive allowed sent s plain = turns_move keys Plain c t step s.taken old mid
    s.changes s.books.1 s.next plain
moves keys Plain c (Piece d bytes) step old mid keys_are alive allowed sent s plain =
    heard_move keys Plain c d (Piece d bytes) step s.taken old mid keys_are allowed (heard_piece keys Plain d step old bytes)
    (λ apart. ap (λ b. if b then bytes.items else []) (other_number d c apart)) (λ apart. refl) s.books s.changes.slices s.next
moves keys Plain c (End d) step old mid keys_are alive allowed sent s plain =
    heard_move keys Plain c d (End d) step s.taken old mid keys_are allowed (heard_end keys Plain d step old) (λ apart. refl)
    (λ apart. refl) s.books s.changes.slices s.next
moves keys Plain c (Fault d) step old mid keys_are alive allowed sent s plain =
    untouched keys Plain c (Fault d) step old mid
    (hears_untouched c d (Fault d) step s.taken old mid (λ same. let lost : (d == c) ≡ true = eq-eqb d c same in cc) refl refl s.books
    (none_enters (keys_of old) d step.told s.taken old mid s.changes) s.next)
moves keys Plain c (Wrote d count) step old mid keys_are alive allowed sent s plain =
    heard_move keys Plain c d (Wrote d count) step s.taken old mid keys_are allowed (heard_wrote keys Plain d step old count sent)
    (λ apart. refl) (λ apart. ap (λ b. if b then step.sent else []) (other_number d c apart)) s.books s.changes.slices s.next
