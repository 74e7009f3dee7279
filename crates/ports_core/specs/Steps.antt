-- What each event does to a service, and what it tells: for every tenant its world and its queue, and for
-- every connection what it is after the event. What it does to the tenants' jobs is in `JobChanges.antt`.
use Rattle.std.specs.Prelude.{◌≡◌, ◌≢◌, ◌⊎◌, ℕ, ◌+◌, false, List, [], ◌∷◌, Some, None, option_map, option_and_then, if◌then◌else◌}
use Rattle.std.proofs.Common.{inl, inr}
use Rattle.ports_http.specs.Messages.{ReplyMessage}
use Rattle.ports_core.specs.declared.event.Event.{Event}
use Rattle.ports_core.specs.declared.event.Event.TheVariants.{Open, Piece, End, Fault, Wrote, Turn}
use Rattle.ports_core.specs.declared.event.Told.{Told}
use Rattle.ports_core.specs.declared.event.Refused.TheVariants.{Connections, Memory}
use Rattle.ports_core.specs.declared.queue.QueuedRequest.{QueuedRequest}
use Rattle.ports_core.specs.Answers.{AnswersFor}
use Rattle.ports_core.specs.Connections.{new_connection, answered, closing_number}
use Rattle.ports_core.specs.Tell.{in_turn}
use Rattle.ports_core.specs.Intake.{Taken, Joins}
use Rattle.ports_core.specs.Opened.{KeepsConnections, KeepsOthers}
use Rattle.ports_core.specs.Books.{HearsOn, TellsOn}
use Rattle.ports_core.specs.State.{State, keys_of, worlds_of, queues_of, world_at, queue_at, connection_of, book_of, next_of, is_full}
use Rattle.refusals.specs.Refused.{refused}

-- the keys and the next number stay as they were
pub record KeepsKeysAndNext (old new : State) : Type 0 where
  pub keys : keys_of new ≡ keys_of old
  pub next : next_of new ≡ next_of old

-- no world changes
abbrev pub KeepsWorlds : State → State → Type 0
KeepsWorlds old new = (t : ℕ) → world_at t new ≡ world_at t old

-- no queue changes
abbrev pub KeepsQueues : State → State → Type 0
KeepsQueues old new = (t : ℕ) → queue_at t new ≡ queue_at t old

-- no queue but that of one tenant changes
abbrev pub KeepsOtherQueues : ℕ → State → State → Type 0
KeepsOtherQueues t old new = (u : ℕ) → u ≢ t → queue_at u new ≡ queue_at u old

-- nothing changes, but a job may, and what the tenants share
pub record IsSame (old new : State) : Type 0 where
  pub keeps : KeepsKeysAndNext old new
  pub connections : KeepsConnections (book_of old) (book_of new)
  pub worlds : KeepsWorlds old new
  pub queues : KeepsQueues old new

-- a connection opens under the next number, with all else as it was
pub record IsOpened (told : Told) (old new : State) : Type 0 where
  pub fits : is_full old ≡ false
  pub reply : told.reply ≡ None
  pub refused : told.refused ≡ None
  pub closed : told.closed ≡ None
  pub keys : keys_of new ≡ keys_of old
  pub next : next_of new ≡ next_of old + 1
  pub connection : connection_of (next_of old) new ≡ Some new_connection
  pub connections : KeepsOthers (next_of old) (book_of old) (book_of new)
  pub worlds : KeepsWorlds old new
  pub queues : KeepsQueues old new

-- a connection isn't opened, and nothing changes
pub record IsRefused (told : Told) (old new : State) : Type 0 where
  pub reply : told.reply ≡ None
  pub refused : told.refused ≡ Some (if is_full old then Connections else Memory refused)
  pub closed : told.closed ≡ None
  pub same : IsSame old new

-- a connection is to open
abbrev pub Opens : Told → State → State → Type 0
Opens told old new = IsOpened told old new ⊎ IsRefused told old new

-- An event of an open connection: what it does to the connection, and which queue a request joins that is
-- taken off it. No world changes.
pub record Hears (event : Event) (c : ℕ) (told : Told) (old new : State) : Type 0 where
  pub taken : Taken
  pub hears : HearsOn (keys_of old) event c told taken (book_of old) (book_of new)
  pub queues : Joins (keys_of old) c taken (queues_of old) (queues_of new)
  pub worlds : KeepsWorlds old new
  pub keeps : KeepsKeysAndNext old new

-- a turn of a tenant for which nothing waits
pub record IsIdleTurn (t : ℕ) (told : Told) (old new : State) : Type 0 where
  pub nothing_waits : queue_at t old ≡ Some []
  pub reply : told.reply ≡ None
  pub refused : told.refused ≡ None
  pub closed : told.closed ≡ None
  pub same : IsSame old new

-- A turn that leaves the request that waited longest in its queue: nothing is told, and nothing changes, but a job may,
-- and what the tenants share.
pub record IsPending (t : ℕ) (told : Told) (old new : State) : Type 0 where
  pub first : QueuedRequest
  pub rest : List QueuedRequest
  pub waits : queue_at t old ≡ Some (first ∷ rest)
  pub reply : told.reply ≡ None
  pub refused : told.refused ≡ None
  pub closed : told.closed ≡ None
  pub same : IsSame old new

-- A turn that answers the request that waited longest. The reply is told to the connection that asked,
-- which closes if it is done. The tenant's world changes as the reply says.
pub record IsAnsweringTurn (t : ℕ) (told : Told) (old new : State) : Type 0 where
  pub first : QueuedRequest
  pub rest : List QueuedRequest
  pub waited : queue_at t old ≡ Some (first ∷ rest)
  pub leaves : queue_at t new ≡ Some rest
  pub queues : KeepsOtherQueues t old new
  pub replied : ReplyMessage
  pub answers : AnswersFor t first.request replied (worlds_of old) (worlds_of new)
  pub reply : told.reply ≡ Some (in_turn t first.conn replied)
  pub refused : told.refused ≡ None
  pub closed : told.closed ≡ option_and_then (closing_number first.conn) (option_map (answered replied) (connection_of first.conn old))
  pub tells : TellsOn (in_turn t first.conn replied) (book_of old) (book_of new)
  pub keeps : KeepsKeysAndNext old new

-- a turn of a tenant
abbrev pub Turns : ℕ → Told → State → State → Type 0
Turns t told old new = IsIdleTurn t told old new ⊎ (IsPending t told old new ⊎ IsAnsweringTurn t told old new)

-- what an event does, and what it tells
abbrev pub Does : Event → Told → State → State → Type 0
Does (Open c) told old new = Opens told old new
Does (Piece c bytes) told old new = Hears (Piece c bytes) c told old new
Does (End c) told old new = Hears (End c) c told old new
Does (Fault c) told old new = Hears (Fault c) c told old new
Does (Wrote c count) told old new = Hears (Wrote c count) c told old new
Does (Turn t) told old new = Turns t told old new

-- no event changes the keys of the tenants
pub keys_stay : (event : Event) (told : Told) (old new : State) → Does event told old new → keys_of new ≡ keys_of old
keys_stay (Open c) told old new (inl h) = h.keys
keys_stay (Open c) told old new (inr h) = h.same.keeps.keys
keys_stay (Piece c bytes) told old new h = h.keeps.keys
keys_stay (End c) told old new h = h.keeps.keys
keys_stay (Fault c) told old new h = h.keeps.keys
keys_stay (Wrote c count) told old new h = h.keeps.keys
keys_stay (Turn t) told old new (inl h) = h.same.keeps.keys
keys_stay (Turn t) told old new (inr (inl h)) = h.same.keeps.keys
keys_stay (Turn t) told old new (inr (inr h)) = h.keeps.keys
