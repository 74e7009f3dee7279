-- One connection in a run: what each event does to what it asked and was told.
use Rattle.std.proofs.Common.{◌≡◌, ◌≢◌, ◌<◌, ◌≤◌, ℕ, Bool, true, false, List, [], ◌∷◌, ◌++◌, refl, sym, ap, subst, ◌∙◌, inl, inr}
use Rattle.std.proofs.Common.{append-nil, arith, eq-eqb, ⊎_elim, Option, Some, None}
use Rattle.std.specs.Prelude.{◌⊎◌, not, MatchBool, MatchOption, option_map, if◌then◌else◌}
use Rattle.std.proofs.lemmas.Bool.{false≢true, cases_Bool, and_parts, and_from, MatchBool-at_true}
use Rattle.std.proofs.lemmas.Bool.Decides.{nat_tests}
use Rattle.general_facts.specs.Options.{None_from_is_none}
use Rattle.ports_core.proofs.Numbers.{other_number}
use Rattle.ports_core.proofs.Lists.{option_from}
use Rattle.ports_core.proofs.QueueLemmas.{queued_requests_of, queued_request, queued_requests_at, queued_requests_join}
use Rattle.ports_http.specs.Messages.{RequestMessage, ReplyMessage}
use Rattle.ports_http.specs.Streams.{Waits}
use Rattle.ports_http.specs.UnreadBytes.{Incoming, opening_stream, ended, Removes}
use Rattle.ports_http.specs.Replies.{reply_text, fault_reply, unknown_key, store_failed}
use Rattle.ports_core.specs.declared.connection.Connection.{Connection}
use Rattle.ports_core.specs.declared.event.Tell.{Tell}
use Rattle.ports_core.specs.declared.queue.QueuedRequest.{QueuedRequest}
use Rattle.ports_core.specs.Keys.{tenant_of}
use Rattle.ports_core.specs.Slices.{Slice, waiting_of, with_requests}
use Rattle.ports_core.specs.Connections.{kept, is_done, is_ready, is_empty, with_pending}
use Rattle.ports_core.specs.Tell.{at_once, in_turn}
use Rattle.ports_core.specs.Intake.{Taken, Nothing, Whole, Refusal, Lost, TakesOff, IsTaken, told_of_tenant, refused_at_once}
use Rattle.ports_core.specs.Intake.{connection_with, connection_after, entering_of, entering}
use Rattle.ports_core.specs.State.{State, slice_of, connection_of, next_of}
use Rattle.ports_core.specs.Conversations.{told_in}
use Rattle.ports_core.proofs.TalkLemmas.{Talk, talk_waits, talk_told, talk_refused}

-- no queue has other requests of the connection
abbrev pub Queued : ℕ → State → Option ℕ → List RequestMessage → Type 0
Queued c state waits waiting = (u : ℕ) (slice : Slice) → slice_of u state ≡ Some slice → queued_requests_of c (waiting_of slice) ≡
    queued_requests_at c u waits waiting

-- the request that waits, while nothing is pending
abbrev pub Holds : List (List ℕ) → Option ℕ → List RequestMessage → List ℕ → Bool → Type 0
Holds keys None waiting pending over = waiting ≡ []
Holds keys (Some t) waiting pending over =
    (request : RequestMessage) × (waiting ≡ request ∷ []) × (tenant_of keys request.key ≡ Some t) × (pending ≡ []) × (over ≡ request.close)

-- a connection that isn't lost, and what was asked and told on it
pub record IsConnection (keys : List (List ℕ)) (Plain : ℕ → QueuedRequest → ReplyMessage → Type 0) (c : ℕ) (came sent : List ℕ)
    (tells : List Tell) (connection : Connection) (state : State) : Type 0 where
  pub alive : connection.lost ≡ false
  pub waiting : List RequestMessage
  pub talk : Talk keys Plain c came sent tells connection.pending waiting connection.stream
  pub holds : Holds keys connection.waits waiting connection.pending connection.stream.over
  pub queued : Queued c state connection.waits waiting

-- once bytes came, nothing more comes first on a connection for which nothing waits and nothing is pending
abbrev pub HasNoMore : List ℕ → Connection → Type 0
HasNoMore came connection = came ≢ [] → is_ready connection ≡ true → TakesOff connection.stream Nothing connection.stream

-- the connection is open
pub record ConversesOpen (keys : List (List ℕ)) (Plain : ℕ → QueuedRequest → ReplyMessage → Type 0) (c : ℕ) (came sent : List ℕ)
    (tells : List Tell) (state : State) : Type 0 where
  pub connection : Connection
  pub at : connection_of c state ≡ Some connection
  pub below : c < next_of state
  pub idle : HasNoMore came connection
  pub is_connection : IsConnection keys Plain c came sent tells connection state

-- the connection isn't open yet, or no more
pub record ConversesShut (keys : List (List ℕ)) (Plain : ℕ → QueuedRequest → ReplyMessage → Type 0) (c : ℕ) (came sent : List ℕ)
    (tells : List Tell) (state : State) : Type 0 where
  pub at : connection_of c state ≡ None
  pub left : Incoming
  pub talk : Talk keys Plain c came sent tells [] [] left
  pub fresh : next_of state ≤ c → (left ≡ opening_stream) × (came ≡ [])
  pub idle : came ≢ [] → TakesOff left Nothing left
  pub queued : Queued c state None []

-- a connection that isn't lost
abbrev pub Stands : List (List ℕ) → (ℕ → QueuedRequest → ReplyMessage → Type 0) → ℕ → List ℕ → List ℕ → List Tell → State → Type 0
Stands keys Plain c came sent tells state = ConversesOpen keys Plain c came sent tells state
    ⊎ ConversesShut keys Plain c came sent tells state

no_bytes : (bytes : List ℕ) → is_empty bytes ≡ true → bytes ≡ []
no_bytes [] e = refl
no_bytes (b ∷ bytes) e = absurd (grind (arith, nat_tests, e))

-- a connection that is done closes, and any other stays open
pub settles : (keys : List (List ℕ)) (Plain : ℕ → QueuedRequest → ReplyMessage → Type 0) (c : ℕ) (came sent : List ℕ) (tells : List Tell)
    (after : Connection) (state : State)
    → connection_of c state ≡ kept after → c < next_of state → HasNoMore came after → IsConnection keys Plain c came sent tells after state
    → Stands keys Plain c came sent tells state
settles keys Plain c came sent tells after state at below idle is =
    let P : Bool → Type 0 = λ b. is_done after ≡ b → connection_of c state ≡ (if b then None else Some after)
    → Stands keys Plain c came sent tells state in
    elim (is_done after) as P [
      | true ↦ λ done none.
          let front = (and_parts _ _ done).0 in
          let waits : after.waits ≡ None = None_from_is_none after.waits (and_parts _ _ front).0 in
          let pending : after.pending ≡ [] = no_bytes after.pending (and_parts _ _ front).1 in
          let waiting : is.waiting ≡ [] = subst (λ w. Holds keys w is.waiting after.pending after.stream.over) waits is.holds in
          inr (record {
            at = none;
            left = after.stream;
            talk = subst (λ ws. Talk keys Plain c came sent tells [] ws after.stream) waiting
                (subst (λ p. Talk keys Plain c came sent tells p is.waiting after.stream) pending is.talk);
            fresh = λ above. absurd (omega (arith, below, above));
            idle = λ some. idle some (and_from _ (not after.lost) front (ap not is.alive));
            queued = λ u slice was. is.queued u slice was ∙ ap (λ w. queued_requests_at c u w is.waiting) waits;
          })
      | false ↦ λ done some. inl (record { connection = after; at = some; below = below; idle = idle; is_connection = is })
    ] refl at

-- the first byte
first_byte : List ℕ → ℕ
first_byte [] = 0
first_byte (b ∷ bytes) = b

-- a reply has bytes: it begins with an H
reply_bytes : (reply : ReplyMessage) (close : Bool) → reply_text reply close ≡ [] → ⊥
unfolding reply_text first_byte
reply_bytes reply close none = let first : 72 ≡ 0 = ap first_byte none in absurd (omega (arith, first))

some_reply : (reply : ReplyMessage) (close : Bool) → is_empty (reply_text reply close) ≡ false
some_reply reply close =
    ⊎_elim (λ none. absurd (reply_bytes reply close (no_bytes (reply_text reply close) none))) (λ some. some)
    (cases_Bool (is_empty (reply_text reply close)))

-- a connection with something pending, or for which something waits, isn't ready
pub pending_waits : (connection : Connection) → is_empty connection.pending ≡ false → is_ready connection ≡ true → ⊥
pending_waits connection some ready = let none : is_empty connection.pending ≡ true = (and_parts _ _ (and_parts _ _ ready).0).1 in cc

pub reply_waits : (connection : Connection) (reply : ReplyMessage) (close : Bool) → connection.pending ≡ reply_text reply close
    → is_ready connection ≡ true → ⊥
reply_waits connection reply close is ready = pending_waits connection (ap is_empty is ∙ some_reply reply close) ready

-- after what was taken, nothing more comes first on a connection that is ready
idle_after_whole : (place : Option ℕ) (close : Bool) (connection : Connection) → is_ready (connection_with place close connection) ≡ true
    → ⊥
idle_after_whole None close connection ready = reply_waits (connection_with None close connection) unknown_key close refl ready
idle_after_whole (Some tenant) close connection ready = absurd (false≢true ready)

pub idle_after : (keys : List (List ℕ)) (connection : Connection) (taken : Taken) (stream : Incoming) → IsTaken connection taken stream
    → is_ready (connection_after keys taken (record connection { stream = stream })) ≡ true
    → TakesOff (connection_after keys taken (record connection { stream = stream })).stream Nothing
    (connection_after keys taken (record connection { stream = stream })).stream
idle_after keys connection Nothing stream stands ready =
    let takes : TakesOff connection.stream Nothing stream = MatchBool-at_true (TakesOff connection.stream Nothing stream) _ ready stands in
    (refl, subst (λ (s : Incoming). MatchBool s.over (Unit {0}) (Waits s.unread)) (sym takes.0) takes.1)
idle_after keys connection (Whole request) stream stands ready =
    absurd (idle_after_whole (tenant_of keys request.key) request.close (record connection { stream = stream }) ready)
idle_after keys connection (Refusal fault) stream stands ready =
    absurd (reply_waits (with_pending (reply_text (fault_reply fault) true) (record connection { stream = stream }))
    (fault_reply fault) true refl ready)
idle_after keys connection (Lost close) stream stands ready =
    absurd (reply_waits (with_pending (reply_text store_failed close) (record connection { stream = stream }))
    store_failed close refl ready)

-- no queue has a request of the connection, whatever was to wait
none_at : (c u : ℕ) (waits : Option ℕ) (waiting : List RequestMessage) → waits ≡ None → queued_requests_at c u waits waiting ≡ []
none_at c u waits waiting none = ap (λ w. queued_requests_at c u w waiting) none

pub told_here : (c : ℕ) (tell : Tell) → tell.conn ≡ c → told_in c (Some tell) ≡ tell ∷ []
told_here c tell here = ap (λ b. if b then tell ∷ [] else []) (eq-eqb tell.conn c here)

pub told_there : (c : ℕ) (tell : Tell) → tell.conn ≢ c → told_in c (Some tell) ≡ []
told_there c tell there = ap (λ b. if b then tell ∷ [] else []) (other_number tell.conn c there)

-- a stream is over after a request that closes
over_after : (request : RequestMessage) (old new : Incoming) → Removes old request new → new.over ≡ request.close
over_after request old new takes =
    ap (λ (s : Incoming). s.over) takes.after
    ∙ elim (request.close) as (λ b. (if b then ended else record { unread = takes.rest; over = false }).over ≡ b)
    [ true ↦ refl | false ↦ refl ]

-- what is taken off a connection that isn't lost
module _ (keys : List (List ℕ)) (Plain : ℕ → QueuedRequest → ReplyMessage → Type 0) (c : ℕ) (came sent : List ℕ) (tells : List Tell)
    (connection : Connection) (old mid : State) (is : IsConnection keys Plain c came sent tells connection old) (stream : Incoming) where
  stay_queued : (slice before : Slice) → with_requests [] before ≡ slice → queued_requests_of c (waiting_of slice) ≡
      queued_requests_of c (waiting_of before)
  stay_queued slice before same = ap (λ (s : Slice). queued_requests_of c (waiting_of s)) (sym same)
      ∙ ap (queued_requests_of c) (append-nil (waiting_of before))

  -- nothing is taken
  takes_nothing : stream ≡ connection.stream → ((u : ℕ) → slice_of u mid ≡ option_map (with_requests []) (slice_of u old))
      → IsConnection keys Plain c came sent (tells ++ []) (record connection { stream = stream }) mid
  takes_nothing same slices = record {
    alive = is.alive;
    waiting = is.waiting;
    talk = subst (λ ts. Talk keys Plain c came sent ts connection.pending is.waiting stream) (sym (append-nil tells))
        (subst (λ s. Talk keys Plain c came sent tells connection.pending is.waiting s) (sym same) is.talk);
    holds = subst (λ (s : Incoming). Holds keys connection.waits is.waiting connection.pending s.over) (sym same) is.holds;
    queued = λ u slice was. let from = option_from (with_requests []) (slice_of u old) slice (sym (slices u) ∙ was) in
        stay_queued slice from.0 from.2 ∙ is.queued u from.0 from.1;
  }

  module _ (ready : is_ready connection ≡ true) where
    ready_waits : connection.waits ≡ None
    ready_waits = None_from_is_none connection.waits (and_parts _ _ (and_parts _ _ ready).0).0

    ready_pending : connection.pending ≡ []
    ready_pending = no_bytes connection.pending (and_parts _ _ (and_parts _ _ ready).0).1

    ready_waiting : is.waiting ≡ []
    ready_waiting = subst (λ w. Holds keys w is.waiting connection.pending connection.stream.over) ready_waits is.holds

    ready_talk : Talk keys Plain c came sent tells [] [] connection.stream
    ready_talk = subst (λ ws. Talk keys Plain c came sent tells [] ws connection.stream) ready_waiting
        (subst (λ p. Talk keys Plain c came sent tells p is.waiting connection.stream) ready_pending is.talk)

    ready_queues : (u : ℕ) (slice : Slice) → slice_of u old ≡ Some slice → queued_requests_of c (waiting_of slice) ≡ []
    ready_queues u slice was = is.queued u slice was ∙ none_at c u connection.waits is.waiting ready_waits

    -- something was taken and is answered at once
    told_connection : (tell : Tell) (pending : List ℕ) → tell.conn ≡ c → Talk keys Plain c came sent (tells ++ tell ∷ []) pending [] stream
        → ((u : ℕ) → slice_of u mid ≡ option_map (with_requests []) (slice_of u old))
        → IsConnection keys Plain c came sent (tells ++ told_in c (Some tell)) (record connection { stream = stream; pending = pending })
        mid
    told_connection tell pending here talk slices = record {
      alive = is.alive;
      waiting = [];
      talk = subst (λ ts. Talk keys Plain c came sent (tells ++ ts) pending [] stream) (sym (told_here c tell here)) talk;
      holds = subst (λ w. Holds keys w [] pending stream.over) (sym ready_waits) refl;
      queued = λ u slice was. let from = option_from (with_requests []) (slice_of u old) slice (sym (slices u) ∙ was) in
          stay_queued slice from.0 from.2 ∙ ready_queues u from.0 from.1 ∙ sym (none_at c u connection.waits [] ready_waits);
    }

    -- a request of that tenant, or of none, is taken
    takes_whole : (place : Option ℕ) (request : RequestMessage) → tenant_of keys request.key ≡ place
        → Removes connection.stream request stream
        → ((u : ℕ) → slice_of u mid ≡ option_map (with_requests (entering_of place c u request)) (slice_of u old))
        → IsConnection keys Plain c came sent (tells ++ told_in c (told_of_tenant c place))
        (connection_with place request.close (record connection { stream = stream })) mid
    takes_whole None request key_is takes slices =
        told_connection (at_once c unknown_key) (reply_text unknown_key request.close) refl
        (talk_told keys Plain c came sent tells connection.stream stream request (at_once c unknown_key) takes
        (inr (subst (λ (o : Option ℕ). MatchOption o (at_once c unknown_key ≡ at_once c unknown_key)
        (λ tenant. (at_once c unknown_key ≡ in_turn tenant c unknown_key) × Plain tenant (queued_request c request) unknown_key))
        (sym key_is) refl)) ready_talk)
        slices
    takes_whole (Some tenant) request key_is takes slices = record {
      alive = is.alive;
      waiting = request ∷ [];
      talk = subst (λ p. Talk keys Plain c came sent (tells ++ []) p (request ∷ []) stream) (sym ready_pending)
          (subst (λ ts. Talk keys Plain c came sent ts [] (request ∷ []) stream) (sym (append-nil tells))
          (talk_waits keys Plain c came sent tells connection.stream stream request takes ready_talk));
      holds = (request, refl, key_is, ready_pending, over_after request connection.stream stream takes);
      queued = λ u slice was. let from = option_from (with_requests (entering_of (Some tenant) c u request)) (slice_of u old) slice
          (sym (slices u) ∙ was) in
          ap (λ (s : Slice). queued_requests_of c (waiting_of s)) (sym from.2) ∙ queued_requests_join c tenant u request (waiting_of from.0)
          (ready_queues u from.0 from.1);
    }

  -- whatever is taken
  takes_ready : (taken : Taken) → is_ready connection ≡ true → TakesOff connection.stream taken stream
      → ((u : ℕ) → slice_of u mid ≡ option_map (with_requests (entering keys c taken u)) (slice_of u old))
      → IsConnection keys Plain c came sent (tells ++ told_in c (refused_at_once keys c taken))
      (connection_after keys taken (record connection { stream = stream })) mid
  takes_ready Nothing ready takes slices = takes_nothing takes.0 slices
  takes_ready (Whole request) ready takes slices = takes_whole ready (tenant_of keys request.key) request refl takes slices
  takes_ready (Refusal fault) ready takes slices =
      told_connection ready (at_once c (fault_reply fault)) (reply_text (fault_reply fault) true) refl
      (talk_refused keys Plain c came sent tells connection.stream stream fault takes.0 takes.1 takes.2 (ready_talk ready))
      slices
  takes_ready (Lost close) ready takes slices =
      told_connection ready (at_once c store_failed) (reply_text store_failed close) refl
      (subst (λ k. Talk keys Plain c came sent (tells ++ at_once c store_failed ∷ []) (reply_text store_failed k) [] stream) takes.2
      (talk_told keys Plain c came sent tells connection.stream stream takes.0 (at_once c store_failed) takes.1
      (inl refl) (ready_talk ready)))
      slices

  pub takes : (taken : Taken) → IsTaken connection taken stream
      → ((u : ℕ) → slice_of u mid ≡ option_map (with_requests (entering keys c taken u)) (slice_of u old))
      → IsConnection keys Plain c came sent (tells ++ told_in c (refused_at_once keys c taken))
      (connection_after keys taken (record connection { stream = stream })) mid
  takes taken stands slices =
      let Q : Taken → Type 0 = λ k. IsConnection keys Plain c came sent (tells ++ told_in c (refused_at_once keys c k))
      (connection_after keys k (record connection { stream = stream })) mid in
      let P : Bool → Type 0 = λ b. is_ready connection ≡ b → MatchBool b (TakesOff connection.stream taken stream) ((taken ≡ Nothing)
      × (stream ≡ connection.stream)) → Q taken in
      elim (is_ready connection) as P [
        | true ↦ λ ready off. takes_ready taken ready off slices
        | false ↦ λ busy off. subst Q (sym off.0)
            (takes_nothing off.1 (λ u. slices u ∙ ap (λ k. option_map (with_requests (entering keys c k u)) (slice_of u old)) off.0))
      ] refl stands
