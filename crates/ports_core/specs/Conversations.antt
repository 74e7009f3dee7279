-- What one connection asked, and the replies that it got, over a whole run, in bytes.
use Rattle.std.specs.Prelude.{◌≡◌, ◌≢◌, ◌⊎◌, ℕ, Bool, true, false, ◌==◌, MatchBool, MatchOption, List, [], ◌∷◌, ◌++◌}
use Rattle.std.specs.Prelude.{map, Option, Some, None, if◌then◌else◌}
use Rattle.std.specs.List.{flat_map, list_any}
use Rattle.ports_http.specs.Messages.{RequestMessage, ReplyMessage}
use Rattle.ports_http.specs.Streams.{End, waiting, refused, closed, Begins, Cuts}
use Rattle.ports_http.specs.UnreadBytes.{Incoming, ended}
use Rattle.ports_http.specs.Replies.{reply_text, fault_reply, unknown_key, store_failed}
use Rattle.ports_core.specs.declared.connection.Connection.{Connection}
use Rattle.ports_core.specs.declared.event.Event.{Event}
use Rattle.ports_core.specs.declared.event.Event.TheVariants.{Piece, Fault, Wrote}
use Rattle.ports_core.specs.declared.event.Tell.{Tell}
use Rattle.ports_core.specs.Effects.{Effect}
use Rattle.ports_core.specs.Keys.{tenant_of}
use Rattle.ports_core.specs.Connections.{is_ready}
use Rattle.ports_core.specs.Tell.{at_once, in_turn}
use Rattle.ports_core.specs.Intake.{Nothing, TakesOff}
use Rattle.ports_core.specs.declared.queue.QueuedRequest.{QueuedRequest}
use Rattle.mk_paths.specs.World.{opening_world}
use Rattle.ports_core.specs.Answers.{plain_answer}
use Rattle.ports_core.specs.Opened.{no_connections}
use Rattle.ports_core.specs.Sharing.{Sizes}
use Rattle.ports_core.specs.State.{State, new_state, connection_of, pending_at}
use Rattle.ports_core.specs.Runs.{Run}
use Rattle.ports_core.specs.Books.{TakesIn}
use Rattle.ports_core.specs.Plainly.{told_to, own_of, plain_world, IsFrontOf}

-- the bytes that an event brings on a connection
abbrev pub came_in : ℕ → Event → List ℕ
came_in c (Piece d bytes) = if d == c then bytes.items else []
came_in c event = []

-- all bytes that came on a connection
abbrev pub came_on : ℕ → List Event → List ℕ
came_on c events = flat_map (came_in c) events

-- the bytes that an event takes off a connection
abbrev pub sent_in : ℕ → Event → Effect → List ℕ
sent_in c (Wrote d count) step = if d == c then step.sent else []
sent_in c event step = []

-- all bytes that were taken off a connection, as written
abbrev pub sent_on : ℕ → List Event → List Effect → List ℕ
sent_on c (event ∷ events) (step ∷ steps) = sent_in c event step ++ sent_on c events steps
sent_on c [] steps = []
sent_on c (event ∷ events) [] = []

-- a reply, if it was told to the connection
abbrev pub told_in : ℕ → Option Tell → List Tell
told_in c None = []
told_in c (Some tell) = if tell.conn == c then tell ∷ [] else []

-- the replies that were told to a connection, in their order
abbrev pub told_on : ℕ → List Effect → List Tell
told_on c steps = flat_map (λ step. told_in c step.told.reply) steps

-- the connection is lost in this event
abbrev pub loses : ℕ → Event → Bool
loses c (Fault d) = d == c
loses c event = false

-- the connection is lost in one of these events
abbrev pub is_lost_in : ℕ → List Event → Bool
is_lost_in c events = list_any (loses c) events

-- a request that was taken off a connection, and the reply that was told to it
pub record Exchange : Type 0 where
  pub request : RequestMessage
  pub tell : Tell

-- the reply as it is written
abbrev pub written : Exchange → List ℕ
written exchange = reply_text exchange.tell.reply exchange.request.close

-- the reply to the head refusal that ends a stream, told at once
abbrev pub refusal_told : ℕ → End → List Tell
refusal_told c (waiting unread) = []
refusal_told c (refused fault) = at_once c (fault_reply fault) ∷ []
refusal_told c closed = []

-- the same as it is written
abbrev pub refusal_written : End → List ℕ
refusal_written (waiting unread) = []
refusal_written (refused fault) = reply_text (fault_reply fault) true
refusal_written closed = []

-- what is left of a stream after its requests
abbrev pub stream_left : End → Incoming
stream_left (waiting unread) = record { unread = unread; over = false }
stream_left (refused fault) = ended
stream_left closed = ended

-- a stream is these requests, one after the other, and then more bytes, whatever
-- they are; or it has this end
abbrev pub IsCutTo : List ℕ → List RequestMessage → End → Type 0
IsCutTo stream requests (waiting unread) = Begins stream requests unread
IsCutTo stream requests (refused fault) = Cuts stream requests (refused fault)
IsCutTo stream requests closed = Cuts stream requests closed

-- The plain service gives this reply to a request of a tenant in a run. The request is in the tenant's own
-- list. It is asked over the world that the plain service has after the requests before it there. Which place of the list
-- it has, this doesn't say: by `IsToldPlainly` the replies are told in the order of the list, one for each request.
pub record IsPlainReply (keys : List (List ℕ)) (events : List Event) (steps : List Effect) (t : ℕ)
    (queued_request : QueuedRequest) (reply : ReplyMessage) : Type 0 where
  pub taken : List QueuedRequest
  pub takes : TakesIn keys t no_connections events steps taken
  pub before : List QueuedRequest
  pub behind : List QueuedRequest
  pub stands : own_of taken (told_to t steps) ≡ before ++ queued_request ∷ behind
  pub plainly : reply ≡ (plain_answer (plain_world opening_world before) queued_request.request).0

-- a reply to a request of a tenant is the plain one, or 503
abbrev pub IsPlainOr503 : List (List ℕ) → List Event → List Effect → ℕ → QueuedRequest → ReplyMessage → Type 0
IsPlainOr503 keys events steps t queued_request reply = IsPlainReply keys events steps t queued_request reply ⊎ (reply ≡ store_failed)

-- A request of a tenant's key is answered plainly in a turn of that tenant. A request without such a key is
-- answered at once. So is a request for whose own bytes there was no memory.
abbrev pub IsAnsweredOn : List (List ℕ) → (ℕ → QueuedRequest → ReplyMessage → Type 0) → ℕ → Exchange → Type 0
IsAnsweredOn keys Plain c exchange =
    (exchange.tell ≡ at_once c store_failed)
    ⊎ MatchOption (tenant_of keys exchange.request.key) (exchange.tell ≡ at_once c unknown_key)
    (λ tenant. (exchange.tell ≡ in_turn tenant c exchange.tell.reply)
    × Plain tenant (record { conn = c; request = exchange.request }) exchange.tell.reply)

-- each request is answered in this way
abbrev pub AreAnsweredOn : List (List ℕ) → (ℕ → QueuedRequest → ReplyMessage → Type 0) → ℕ → List Exchange → Type 0
AreAnsweredOn keys Plain c [] = Unit {0}
AreAnsweredOn keys Plain c (exchange ∷ exchanges) = IsAnsweredOn keys Plain c exchange × AreAnsweredOn keys Plain c exchanges

-- What was sent, and then what is pending, are these bytes. If the connection was lost, a front of them was
-- sent, and nothing is pending.
abbrev pub AreWritten : Bool → List ℕ → List ℕ → List ℕ → Type 0
AreWritten lost sent pending bytes = MatchBool lost (IsFrontOf sent bytes × (pending ≡ [])) (sent ++ pending ≡ bytes)

-- the request of a connection that waits for a turn of this tenant, or none
abbrev pub WaitsFor : List (List ℕ) → Option ℕ → List RequestMessage → Type 0
WaitsFor keys None waits = waits ≡ []
WaitsFor keys (Some tenant) waits =
    (request : RequestMessage) × (waits ≡ request ∷ []) × (tenant_of keys request.key ≡ Some tenant)

-- What is left of an open connection: its unread bytes, if it isn't lost, and the request that waits. If
-- the connection isn't open, nothing waits.
abbrev pub IsLeftOfConnection : List (List ℕ) → Option Connection → List RequestMessage → End → Type 0
IsLeftOfConnection keys None waits end = waits ≡ []
IsLeftOfConnection keys (Some connection) waits end =
    (connection.lost ≡ false → connection.stream ≡ stream_left end) × WaitsFor keys connection.waits waits

-- If nothing waits and nothing is pending on an open connection, there is nothing more to take off it. If
-- a connection has closed, there was nothing more to take off it.
abbrev pub IsServedOut : Option Connection → End → Type 0
IsServedOut None end = TakesOff (stream_left end) Nothing (stream_left end)
IsServedOut (Some connection) end = is_ready connection ≡ true → TakesOff connection.stream Nothing connection.stream

-- A connection in a run, in bytes. Its whole stream, however it came in pieces, is cut into the requests
-- that were answered and the one that still waits. Then it goes on or has ended. The replies told to it
-- answer these requests one for one, and then the head refusal if one ended the stream. What was sent, and
-- what is pending, is these replies as they are written, in order. If the connection was lost, what was
-- sent before is a front of them, and nothing is pending. If it was not lost, then once nothing of it waits
-- or is pending, and once it has closed, what is unread begins with no whole request and no head refusal. Of a connection on
-- which no byte came this isn't said, since there need not be one with its number.
pub record ConversesPlainly (keys : List (List ℕ)) (c : ℕ) (events : List Event) (steps : List Effect) (service : State) : Type 0 where
  pub exchanges : List Exchange
  pub waits : List RequestMessage
  pub end : End
  pub cut : IsCutTo (came_on c events) (map (λ exchange. exchange.request) exchanges ++ waits) end
  pub told : told_on c steps ≡ map (λ exchange. exchange.tell) exchanges ++ refusal_told c end
  pub answers : AreAnsweredOn keys (IsPlainOr503 keys events steps) c exchanges
  pub bytes : AreWritten (is_lost_in c events) (sent_on c events steps) (pending_at c service)
      (flat_map written exchanges ++ refusal_written end)
  pub stays : IsLeftOfConnection keys (connection_of c service) waits end
  pub served : is_lost_in c events ≡ false → came_on c events ≢ [] → IsServedOut (connection_of c service) end

-- in every run from the beginning, each connection converses plainly
abbrev pub EachConnectionConverses : Type 0
EachConnectionConverses =
    (keys : List (List ℕ)) (sizes : Sizes) (events : List Event) (steps : List Effect) (service : State) (c : ℕ)
    → Run (new_state keys sizes) events steps service → ConversesPlainly keys c events steps service
