-- A connection that is lost, event by event: nothing more comes or is written, and the request that waits is still
-- answered.
use Rattle.std.proofs.Common.{◌≡◌, ◌≢◌, ◌<◌, ◌≤◌, ◌-◌, ℕ, zero, suc, Bool, true, false, List, [], ◌∷◌, ◌++◌, length, take, drop, refl, sym}
use Rattle.std.proofs.Common.{ap, subst, ◌∙◌, inl, inr, append-nil, arith, ⊎_elim, Option, Some, None}
use Rattle.std.specs.Prelude.{◌==◌, ◌&&◌, not, map, is_none, option_map, option_and_then, MatchBool, MatchOption, if◌then◌else◌, Vec}
use Rattle.std.specs.declared.alloc.Global.{Global}
use Rattle.std.proofs.lemmas.Bool.{cases_eq, and_parts}
use Rattle.general_facts.specs.Options.{None_from_is_none}
use Rattle.std.proofs.Math.Bool.{and-false}
use Rattle.ports_http.specs.Messages.{RequestMessage, ReplyMessage}
use Rattle.ports_http.specs.Limits.{unread_limit}
use Rattle.ports_http.specs.UnreadBytes.{room_of}
use Rattle.ports_http.specs.Replies.{reply_text}
use Rattle.ports_core.specs.declared.connection.Connection.{Connection}
use Rattle.ports_core.specs.declared.event.Event.{Event}
use Rattle.ports_core.specs.declared.event.Event.TheVariants.{Open, Piece, End, Fault, Wrote, Turn}
use Rattle.ports_core.specs.declared.event.Tell.{Tell}
use Rattle.ports_core.specs.declared.event.Refused.{Refused}
use Rattle.ports_core.specs.declared.queue.QueuedRequest.{QueuedRequest}
use Rattle.ports_core.specs.Effects.{Effect}
use Rattle.ports_core.specs.Slices.{Slice, waiting_of, with_requests}
use Rattle.ports_core.specs.Connections.{new_connection, hears, answered, kept, is_done, is_ready, is_empty, room_on, count_off}
use Rattle.ports_core.specs.Connections.{MayHappenTo}
use Rattle.ports_core.specs.Tell.{in_turn}
use Rattle.ports_core.specs.Intake.{Taken, Nothing, TakesOff, TakesNext, refused_at_once, connection_after, entering}
use Rattle.ports_core.specs.Opened.{OpenAnd, KeepsConnections, KeepsOthers}
use Rattle.ports_core.specs.Books.{HearsOn, TellsOn, BookTurns}
use Rattle.ports_core.specs.State.{State, keys_of, slice_of, connection_of, book_of, next_of, IsAllowed}
use Rattle.ports_core.specs.Changes.{FirstLeaves, ChangesSlices}
use Rattle.ports_core.specs.Runs.{sent_by}
use Rattle.ports_core.specs.Conversations.{came_in, sent_in, told_in, WaitsFor}
use Rattle.ports_core.proofs.Numbers.{other_number}
use Rattle.ports_core.proofs.Lists.{none_some, some_same, option_from}
use Rattle.ports_core.proofs.QueueLemmas.{queued_requests_of, queued_request, queued_requests_at}
use Rattle.ports_core.proofs.ChangeLemmas.{IsSeen}
use Rattle.ports_core.proofs.PlaceLemmas.{hears_waits}
use Rattle.ports_core.proofs.TalkLemmas.{LostTalk, talk_lost, lost_answered}
use Rattle.ports_core.proofs.ConversesLemmas.{Queued, Holds, Stands, told_here}
use Rattle.ports_core.proofs.ConversingLemmas.{no_length, drop_nil, sent_first, Untouched, hears_untouched, rests_untouched, none_enters}
use Rattle.ports_core.proofs.ConversingLemmas.{rest_none, first_in_queue, first_waits, answered_there, answers_in_turn, EachIsPlain}

-- nothing is pending on a lost connection, and its stream is over
pub record IsLostConnection (connection : Connection) : Type 0 where
  pub lost : connection.lost ≡ true
  pub pending : connection.pending ≡ []
  pub over : connection.stream.over ≡ true

-- it is open and waits so, or is open no more and waits for nothing
abbrev pub LostAt : Option Connection → Option ℕ → Type 0
LostAt None waits = waits ≡ None
LostAt (Some connection) waits = IsLostConnection connection × (connection.waits ≡ waits)

-- where a lost connection is
pub record ConversesLost (keys : List (List ℕ)) (Plain : ℕ → QueuedRequest → ReplyMessage → Type 0) (c : ℕ) (came sent : List ℕ)
    (tells : List Tell) (state : State) : Type 0 where
  pub below : c < next_of state
  pub waits : Option ℕ
  pub waiting : List RequestMessage
  pub talk : LostTalk keys Plain c came sent tells waiting
  pub request : WaitsFor keys waits waiting
  pub at : LostAt (connection_of c state) waits
  pub queued : Queued c state waits waiting

take_nil : (n : ℕ) → ◌≡◌ {A = List ℕ} (take n []) []
take_nil zero = refl
take_nil (suc n) = refl

if_nil : {X : Type 0} (b : Bool) (xs : List X) → xs ≡ [] → (if b then xs else []) ≡ []
if_nil true xs none = none
if_nil false xs none = refl

-- it stays lost
lost_hears : (event : Event) (connection : Connection) → IsLostConnection connection → IsLostConnection (hears event connection)
lost_hears (Open c) connection is = is
lost_hears (Piece c bytes) connection is = record { lost = is.lost; pending = is.pending; over = is.over }
lost_hears (End c) connection is = record { lost = is.lost; pending = is.pending; over = is.over }
lost_hears (Fault c) connection is = record { lost = refl; pending = refl; over = refl }
lost_hears (Wrote c None) connection is = record { lost = is.lost; pending = refl; over = is.over }
lost_hears (Wrote c (Some count)) connection is = record {
  lost = is.lost;
  pending = ap (drop count) is.pending
      ∙ drop_nil count;
  over = is.over;
}
lost_hears (Turn t) connection is = is

-- no bytes come on it
no_bytes_come : (c d : ℕ) (bytes : Vec ℕ Global) (connection : Connection) → IsLostConnection connection
    → MayHappenTo (Piece d bytes) connection → came_in c (Piece d bytes) ≡ []
no_bytes_come c d bytes connection is fits =
    let no_room : room_on connection ≡ 0 = ap (λ b. if b then 0 else room_of connection.stream) fits.0
    ∙ ap (λ b. if b then 0 else unread_limit - length connection.stream.unread) is.over in
    if_nil (d == c) bytes.items (no_length bytes.items (subst (λ n. length bytes.items ≤ n) no_room fits.1))

-- a lost connection closes once nothing waits
lost_kept : (connection : Connection) (o : Option Connection) → o ≡ kept connection → IsLostConnection connection
    → LostAt o connection.waits
lost_kept connection o is lost =
    let P : Bool → Type 0 = λ b. is_done connection ≡ b → o ≡ (if b then None else Some connection) → LostAt o connection.waits in
    elim (is_done connection) as P [
      | true ↦ λ done none. subst (λ (p : Option Connection). LostAt p connection.waits) (sym none)
          (None_from_is_none connection.waits (and_parts _ _ (and_parts _ _ done).0).0)
      | false ↦ λ done some. subst (λ (p : Option Connection). LostAt p connection.waits) (sym some) (lost, refl)
    ] refl is

-- nothing is taken off it
lost_taken : (keys : List (List ℕ)) (c : ℕ) (taken : Taken) (told : Option Tell) (connection after : Connection)
    → IsLostConnection connection → TakesNext keys c taken told connection after → (taken ≡ Nothing) × (told ≡ None) × (after ≡ connection)
lost_taken keys c taken told connection after is takes =
    let front : Bool = is_none connection.waits && is_empty connection.pending in
    let busy : is_ready connection ≡ false = ap (λ b. front && not b) is.lost ∙ and-false front in
    let stays = subst (λ b. MatchBool b (TakesOff connection.stream taken takes.stream) ((taken ≡ Nothing)
    × (takes.stream ≡ connection.stream))) busy takes.stands in (
      stays.0,
      takes.told_is ∙ ap (refused_at_once keys c) stays.0,
      takes.connection_is ∙ ap (λ k. connection_after keys k (record connection { stream = takes.stream })) stays.0
          ∙ ap (λ s. record connection { stream = s }) stays.1,
    )

module _ (keys : List (List ℕ)) (Plain : ℕ → QueuedRequest → ReplyMessage → Type 0) (c : ℕ) (event : Event)
    (step : Effect) (old mid : State) where
  -- where nothing comes, is sent or is told
  lost_silent : (came sent : List ℕ) (tells : List Tell) → came_in c event ≡ [] → sent_in c event step ≡ [] → told_in c step.told.reply ≡ []
      → ConversesLost keys Plain c came sent tells mid → ConversesLost keys Plain c (came ++ came_in c event) (sent ++ sent_in c event step)
      (tells ++ told_in c step.told.reply) mid
  lost_silent came sent tells no_bytes none_sent none_told stands =
      subst (λ bs. ConversesLost keys Plain c bs (sent ++ sent_in c event step) (tells ++ told_in c step.told.reply) mid)
      (sym (ap (λ bs. came ++ bs) no_bytes ∙ append-nil came))
      (subst (λ bs. ConversesLost keys Plain c came bs (tells ++ told_in c step.told.reply) mid)
      (sym (ap (λ bs. sent ++ bs) none_sent ∙ append-nil sent))
      (subst (λ ts. ConversesLost keys Plain c came sent ts mid) (sym (ap (λ ts. tells ++ ts) none_told ∙ append-nil tells)) stands))

  -- nothing happens to it
  lost_on : (came sent : List ℕ) (tells : List Tell) → Untouched c event step old mid → ConversesLost keys Plain c came sent tells old
      → ConversesLost keys Plain c (came ++ came_in c event) (sent ++ sent_in c event step) (tells ++ told_in c step.told.reply) mid
  lost_on came sent tells h is = lost_silent came sent tells h.came h.sent h.told (record {
    below = omega (arith, is.below, h.next);
    waits = is.waits;
    waiting = is.waiting;
    talk = is.talk;
    request = is.request;
    at = subst (λ (o : Option Connection). LostAt o is.waits) (sym h.connection) is.at;
    queued = λ u slice was. let before = h.queues u slice was in before.2 ∙ is.queued u before.0 before.1;
  })

  -- it hears something
  lost_heard : (taken : Taken) (came sent : List ℕ) (tells : List Tell) → OpenAnd (connection_of c old) (MayHappenTo event)
      → ((connection : Connection) → connection_of c old ≡ Some connection → IsLostConnection connection → MayHappenTo event connection
      → (came_in c event ≡ []) × (sent_in c event step ≡ []))
      → HearsOn (keys_of old) event c step.told taken (book_of old) (book_of mid)
      → ((u : ℕ) → slice_of u mid ≡ option_map (with_requests (entering (keys_of old) c taken u)) (slice_of u old))
      → next_of old ≤ next_of mid
      → ConversesLost keys Plain c came sent tells old → ConversesLost keys Plain c (came ++ came_in c event) (sent ++ sent_in c event step)
      (tells ++ told_in c step.told.reply) mid
  lost_heard taken came sent tells allowed silent h enters next is =
      let at : LostAt (Some h.connection) is.waits = subst (λ (o : Option Connection). LostAt o is.waits) h.was_open is.at in
      let fits : MayHappenTo event h.connection = subst (λ (o : Option Connection). OpenAnd o (MayHappenTo event)) h.was_open allowed in
      let heard : IsLostConnection (hears event h.connection) = lost_hears event h.connection at.0 in
      let quiet = silent h.connection h.was_open at.0 fits in
      let none = lost_taken (keys_of old) c taken step.told.reply (hears event h.connection) h.after heard h.takes in
      let kept_at : LostAt (connection_of c mid) (hears event h.connection).waits = lost_kept (hears event h.connection)
      (connection_of c mid) (h.connection_is ∙ ap kept none.2) heard in
      lost_silent came sent tells quiet.0 quiet.1 (ap (told_in c) none.1) (record {
        below = omega (arith, is.below, next);
        waits = is.waits;
        waiting = is.waiting;
        talk = is.talk;
        request = is.request;
        at = subst (λ w. LostAt (connection_of c mid) w) (hears_waits event h.connection ∙ at.1) kept_at;
        queued = λ u slice was.
            let from = option_from (with_requests (entering (keys_of old) c taken u)) (slice_of u old) slice (sym (enters u) ∙ was) in
            ap (λ (s : Slice). queued_requests_of c (waiting_of s)) (sym from.2)
            ∙ ap (λ k. queued_requests_of c (waiting_of from.0 ++ entering (keys_of old) c k u)) none.0
            ∙ ap (queued_requests_of c) (append-nil (waiting_of from.0)) ∙ is.queued u from.0 from.1;
      })

-- what waits, as the contract says it
pub waits_for : (keys : List (List ℕ)) (waits : Option ℕ) (waiting : List RequestMessage) (pending : List ℕ) (over : Bool)
    → Holds keys waits waiting pending over → WaitsFor keys waits waiting
waits_for keys None waiting pending over holds = holds
waits_for keys (Some t) waiting pending over (request, one, key_is, none, over_is) = (request, one, key_is)

-- a connection is lost
pub is_lost : (keys : List (List ℕ)) (Plain : ℕ → QueuedRequest → ReplyMessage → Type 0) (c : ℕ) (step : Effect) (old mid : State)
    (came sent : List ℕ) (tells : List Tell) → IsSeen (Fault c) step.told old mid
    → Stands keys Plain c came sent tells old → ConversesLost keys Plain c (came ++ []) (sent ++ [])
    (tells ++ told_in c step.told.reply) mid
is_lost keys Plain c step old mid came sent tells s (inr is) = absurd (none_some (sym is.at ∙ s.books.was_open))
is_lost keys Plain c step old mid came sent tells s (inl is) =
    let h = s.books in
    let connection_is : h.connection ≡ is.connection = some_same (sym h.was_open ∙ is.at) in
    let heard : Connection = hears (Fault c) is.connection in
    let heard_is : hears (Fault c) h.connection ≡ heard = ap (hears (Fault c)) connection_is in
    let lost : IsLostConnection heard = record { lost = refl; pending = refl; over = refl } in
    let none = lost_taken (keys_of old) c s.taken step.told.reply heard h.after lost
    (subst (λ (l : Connection). TakesNext (keys_of old) c s.taken step.told.reply l h.after) heard_is h.takes) in
    lost_silent keys Plain c (Fault c) step old mid came sent tells refl refl (ap (told_in c) none.1) (record {
      below = let next = s.next in omega (arith, is.below, next);
      waits = is.connection.waits;
      waiting = is.is_connection.waiting;
      talk = talk_lost keys Plain c came sent tells is.connection.pending is.is_connection.waiting
          is.connection.stream is.is_connection.talk;
      request = waits_for keys is.connection.waits is.is_connection.waiting is.connection.pending
          is.connection.stream.over is.is_connection.holds;
      at = lost_kept heard (connection_of c mid) (h.connection_is ∙ ap kept none.2) lost;
      queued = λ u slice was. is.is_connection.queued u slice (sym (s.changes.slices u) ∙ was);
    })

-- the waiting request of a lost connection is answered
lost_answers : (o p : Option Connection) (waits : Option ℕ) (reply : ReplyMessage) → LostAt o waits
    → p ≡ option_and_then kept (option_map (answered reply) o) → LostAt p None
lost_answers None p waits reply at is = subst (λ (q : Option Connection). LostAt q None) (sym is) refl
lost_answers (Some connection) p waits reply at is =
    lost_kept (answered reply connection) p is (record {
      lost = at.0.lost;
      pending = ap (λ b. if b then connection.pending else reply_text reply connection.stream.over) at.0.lost ∙ at.0.pending;
      over = at.0.over;
    })

lost_turn : (keys : List (List ℕ)) (Plain : ℕ → QueuedRequest → ReplyMessage → Type 0) (c t : ℕ) (step : Effect) (taken : Taken)
    (old mid : State) (came sent : List ℕ) (tells : List Tell) (h : FirstLeaves t step.told taken old mid)
    → TellsOn h.tell (book_of old) (book_of mid) → next_of old ≤ next_of mid → Plain t h.first h.tell.reply → h.first.conn ≡ c
    → ConversesLost keys Plain c came sent tells old → ConversesLost keys Plain c (came ++ []) (sent ++ [])
    (tells ++ told_in c step.told.reply) mid
lost_turn keys Plain c t step taken old mid came sent tells h book next plain here is =
    let reply = h.tell.reply in
    let conn_is : h.tell.conn ≡ c = h.to_asker ∙ here in
    let first = first_waits c t is.waits is.waiting h.first (queued_requests_of c h.rest)
    (first_in_queue c (waiting_of h.slice) h.first h.rest h.waited here ∙ is.queued t h.slice h.was) in
    let holds : WaitsFor keys (Some t) is.waiting = subst (λ w. WaitsFor keys w is.waiting) first.0 is.request in
    let request = holds.0 in
    let one : queued_request c request ∷ [] ≡ h.first ∷ queued_requests_of c h.rest = ap (map (queued_request c)) (sym holds.1) ∙ first.1 in
    let tell : Tell = in_turn t c reply in
    let tell_is : h.tell ≡ tell =
    ap (λ p. let x : Tell = record { tenant = p; conn = h.tell.conn; reply = reply } in x) h.of_tenant
    ∙ ap (λ d. let x : Tell = record { tenant = Some t; conn = d; reply = reply } in x) conn_is in
    let told : told_in c step.told.reply ≡ tell ∷ [] = ap (told_in c) h.told_is ∙ ap (λ (x : Tell). told_in c (Some x)) tell_is
    ∙ told_here c tell refl in
    let talk : LostTalk keys Plain c came sent tells (request ∷ []) =
    subst (λ ws. LostTalk keys Plain c came sent tells ws) holds.1 is.talk in
    let connection_is : connection_of c mid ≡ option_and_then kept (option_map (answered reply) (connection_of c old)) =
    ap (λ d. connection_of d mid) (sym conn_is) ∙ book.connection_is
    ∙ ap (λ d. option_and_then kept (option_map (answered reply) (connection_of d old))) conn_is in
    let stands : ConversesLost keys Plain c came sent (tells ++ tell ∷ []) mid = record {
      below = omega (arith, is.below, next);
      waits = None;
      waiting = [];
      talk = lost_answered keys Plain c came sent tells request tell (answers_in_turn keys Plain c t request h.first h.rest reply
          holds.2 one plain) talk;
      request = refl;
      at = lost_answers (connection_of c old) (connection_of c mid) is.waits reply is.at connection_is;
      queued = λ u slice was.
          ⊎_elim (λ same.
          let slice_is : slice ≡ (h.world, h.rest) = some_same (sym was ∙ ap (λ n. slice_of n mid) same ∙ h.slice_is) in
          ap (λ (s : Slice). queued_requests_of c (waiting_of s)) slice_is ∙ rest_none (queued_request c request) h.first
          (queued_requests_of c h.rest) one)
          (λ other. is.queued u slice (sym (h.others u other) ∙ was) ∙ ap (λ w. queued_requests_at c u w is.waiting) first.0
          ∙ ap (λ b. if b then map (queued_request c) is.waiting else []) (other_number t u (λ e. other (sym e)))) (cases_eq u t);
    } in
    subst (λ bs. ConversesLost keys Plain c bs (sent ++ []) (tells ++ told_in c step.told.reply) mid) (sym (append-nil came))
    (subst (λ bs. ConversesLost keys Plain c came bs (tells ++ told_in c step.told.reply) mid) (sym (append-nil sent))
    (subst (λ ts. ConversesLost keys Plain c came sent (tells ++ ts) mid) (sym told) stands))

-- what an event does to a lost connection
abbrev pub LostMoves : List (List ℕ) → (ℕ → QueuedRequest → ReplyMessage → Type 0) → ℕ → Event → Effect → State → State → Type 0
LostMoves keys Plain c event step old mid = (came sent : List ℕ) (tells : List Tell) → ConversesLost keys Plain c came sent tells old
    → ConversesLost keys Plain c (came ++ came_in c event) (sent ++ sent_in c event step) (tells ++ told_in c step.told.reply) mid

lost_heard_by : (keys : List (List ℕ)) (Plain : ℕ → QueuedRequest → ReplyMessage → Type 0) (c d : ℕ) (event : Event) (step : Effect)
    (taken : Taken) (old mid : State) → OpenAnd (connection_of d old) (MayHappenTo event)
    → ((connection : Connection) → connection_of d old ≡ Some connection → IsLostConnection connection → MayHappenTo event connection
    → (came_in d event ≡ []) × (sent_in d event step ≡ []))
    → (d ≢ c → came_in c event ≡ []) → (d ≢ c → sent_in c event step ≡ [])
    → HearsOn (keys_of old) event d step.told taken (book_of old) (book_of mid)
    → ((u : ℕ) → slice_of u mid ≡ option_map (with_requests (entering (keys_of old) d taken u)) (slice_of u old))
    → next_of old ≤ next_of mid
    → LostMoves keys Plain c event step old mid
lost_heard_by keys Plain c d event step taken old mid allowed silent no_bytes none_sent h enters next =
    ⊎_elim (λ same. subst (λ n. LostMoves keys Plain n event step old mid) same (λ came sent tells. lost_heard keys Plain d event step old
    mid taken came sent tells allowed silent h enters next))
    (λ apart came sent tells. lost_on keys Plain c event step old mid came sent tells
    (hears_untouched c d event step taken old mid apart (no_bytes apart) (none_sent apart) h enters next))
    (cases_eq d c)

lost_opens : (keys : List (List ℕ)) (Plain : ℕ → QueuedRequest → ReplyMessage → Type 0) (c d : ℕ) (step : Effect) (old mid : State)
    → IsSeen (Open d) step.told old mid → LostMoves keys Plain c (Open d) step old mid
lost_opens keys Plain c d step old mid s came sent tells is =
    let P : Option Refused → Type 0 = λ refused. MatchOption refused ((connection_of d mid ≡ Some new_connection)
    × KeepsOthers d (book_of old) (book_of mid)) (λ why. KeepsConnections (book_of old) (book_of mid)) in
    let apart : c ≢ d = λ same. let number = s.numbers.0 in absurd (omega (arith, is.below, same, number)) in
    let connection : connection_of c mid ≡ connection_of c old = elim (step.told.refused) as (λ refused. P refused
    → connection_of c mid ≡ connection_of c old) [
      | None ↦ λ book. book.1 c apart
      | Some why ↦ λ book. book c
    ] s.books.1 in
    lost_on keys Plain c (Open d) step old mid came sent tells (rests_untouched c (Open d) step s.taken old mid refl refl
    s.changes connection s.next) is

lost_turns : (keys : List (List ℕ)) (Plain : ℕ → QueuedRequest → ReplyMessage → Type 0) (c t : ℕ) (step : Effect) (taken : Taken)
    (old mid : State) → ChangesSlices (Turn t) step.told taken old mid → BookTurns step.told (book_of old) (book_of mid)
    → next_of old ≤ next_of mid
    → EachIsPlain Plain (Turn t) step old mid → LostMoves keys Plain c (Turn t) step old mid
lost_turns keys Plain c t step taken old mid (inl rests) book next plain came sent tells is =
    let connections : KeepsConnections (book_of old) (book_of mid) =
    subst (λ (reply : Option Tell). MatchOption reply (KeepsConnections (book_of old) (book_of mid))
    (λ tell. TellsOn tell (book_of old) (book_of mid))) rests.silent book in
    lost_on keys Plain c (Turn t) step old mid came sent tells (rests_untouched c (Turn t) step taken old mid refl refl rests
    (connections c) next) is
lost_turns keys Plain c t step taken old mid (inr h) book next plain came sent tells is =
    let on : TellsOn h.tell (book_of old) (book_of mid) =
    subst (λ (reply : Option Tell). MatchOption reply (KeepsConnections (book_of old) (book_of mid))
    (λ tell. TellsOn tell (book_of old) (book_of mid))) h.told_is book in
    ⊎_elim (λ here. lost_turn keys Plain c t step taken old mid came sent tells h on next (plain t taken h refl) here is)
    (λ apart. lost_on keys Plain c (Turn t) step old mid came sent tells (answered_there c t step taken old mid h on next apart) is)
    (cases_eq h.first.conn c)

-- nothing of a lost connection is written
none_written : (keys : List (List ℕ)) (Plain : ℕ → QueuedRequest → ReplyMessage → Type 0) (c : ℕ) (count : Option ℕ) (step : Effect)
    (old : State) → step.sent ≡ sent_by (Wrote c count) old → (connection : Connection) → connection_of c old ≡ Some connection
    → IsLostConnection connection
    → sent_in c (Wrote c count) step ≡ []
none_written keys Plain c count step old sent_is connection at is =
    sent_first keys Plain c step old count connection at sent_is ∙ ap (λ bytes. take (count_off count bytes) bytes) is.pending
    ∙ take_nil (count_off count [])

-- any event that is allowed
pub lost_moves : (keys : List (List ℕ)) (Plain : ℕ → QueuedRequest → ReplyMessage → Type 0) (c : ℕ) (event : Event) (step : Effect)
    (old mid : State) → IsAllowed event old → step.sent ≡ sent_by event old → IsSeen event step.told old mid
    → EachIsPlain Plain event step old mid → LostMoves keys Plain c event step old mid
lost_moves keys Plain c (Open d) step old mid allowed sent s plain = lost_opens keys Plain c d step old mid s
lost_moves keys Plain c (Turn t) step old mid allowed sent s plain = lost_turns keys Plain c t step s.taken old mid
    s.changes s.books.1 s.next plain
lost_moves keys Plain c (Piece d bytes) step old mid allowed sent s plain =
    lost_heard_by keys Plain c d (Piece d bytes) step s.taken old mid allowed
    (λ connection at is fits. (no_bytes_come d d bytes connection is fits, refl))
    (λ apart. ap (λ b. if b then bytes.items else []) (other_number d c apart)) (λ apart. refl) s.books s.changes.slices s.next
lost_moves keys Plain c (End d) step old mid allowed sent s plain =
    lost_heard_by keys Plain c d (End d) step s.taken old mid allowed (λ connection at is fits. (refl, refl)) (λ apart. refl)
    (λ apart. refl) s.books s.changes.slices s.next
lost_moves keys Plain c (Fault d) step old mid allowed sent s plain =
    lost_heard_by keys Plain c d (Fault d) step s.taken old mid allowed (λ connection at is fits. (refl, refl)) (λ apart. refl)
    (λ apart. refl) s.books (none_enters (keys_of old) d step.told s.taken old mid s.changes) s.next
lost_moves keys Plain c (Wrote d count) step old mid allowed sent s plain =
    lost_heard_by keys Plain c d (Wrote d count) step s.taken old mid allowed
    (λ connection at is fits. (refl, none_written keys Plain d count step old sent connection at is))
    (λ apart. refl) (λ apart. ap (λ b. if b then step.sent else []) (other_number d c apart)) s.books s.changes.slices s.next
