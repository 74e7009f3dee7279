-- Book-keeping: which requests a run takes off its connections. It is read off the events and what was
-- told, and never off a world or a queue.
use Rattle.std.specs.Prelude.{◌≡◌, ℕ, List, [], ◌∷◌, ◌++◌, MatchOption, Some, None, option_map, option_and_then}
use Rattle.ports_core.specs.declared.connection.Connection.{Connection}
use Rattle.ports_core.specs.declared.event.Event.{Event}
use Rattle.ports_core.specs.declared.event.Event.TheVariants.{Open, Piece, End, Fault, Wrote, Turn}
use Rattle.ports_core.specs.declared.event.Told.{Told}
use Rattle.ports_core.specs.declared.event.Tell.{Tell}
use Rattle.ports_core.specs.declared.queue.QueuedRequest.{QueuedRequest}
use Rattle.ports_core.specs.Effects.{Effect}
use Rattle.ports_core.specs.Connections.{new_connection, hears, answered, kept, closing_number}
use Rattle.ports_core.specs.Intake.{Taken, Nothing, TakesNext, entering}
use Rattle.ports_core.specs.Opened.{Book, KeepsConnections, KeepsOthers}

-- a connection opens, unless a refusal was told
abbrev pub BookOpens : ℕ → Told → Book → Book → Type 0
BookOpens c told old new =
    MatchOption told.refused ((new c ≡ Some new_connection) × KeepsOthers c old new) (λ why. KeepsConnections old new)

-- An event of an open connection: what it does to the connection, what is then taken off the connection,
-- and what is told. The connection closes if it is done.
pub record HearsOn (keys : List (List ℕ)) (event : Event) (c : ℕ) (told : Told) (taken : Taken) (old new : Book) : Type 0 where
  pub connection : Connection
  pub was_open : old c ≡ Some connection
  pub after : Connection
  pub takes : TakesNext keys c taken told.reply (hears event connection) after
  pub refused : told.refused ≡ None
  pub closed : told.closed ≡ closing_number c after
  pub connection_is : new c ≡ kept after
  pub others : KeepsOthers c old new

-- A reply is to be written to the connection that it names. The connection closes if it is done.
pub record TellsOn (tell : Tell) (old new : Book) : Type 0 where
  pub connection_is : new tell.conn ≡ option_and_then kept (option_map (answered tell.reply) (old tell.conn))
  pub others : KeepsOthers tell.conn old new

-- a turn changes the connection to which a reply was told, and no other
abbrev pub BookTurns : Told → Book → Book → Type 0
BookTurns told old new = MatchOption told.reply (KeepsConnections old new) (λ tell. TellsOn tell old new)

-- an event, what it told, and what it takes off a connection
abbrev pub BookStep : List (List ℕ) → Event → Told → Taken → Book → Book → Type 0
BookStep keys (Open c) told taken old new = (taken ≡ Nothing) × BookOpens c told old new
BookStep keys (Piece c bytes) told taken old new = HearsOn keys (Piece c bytes) c told taken old new
BookStep keys (End c) told taken old new = HearsOn keys (End c) c told taken old new
BookStep keys (Fault c) told taken old new = HearsOn keys (Fault c) c told taken old new
BookStep keys (Wrote c count) told taken old new = HearsOn keys (Wrote c count) c told taken old new
BookStep keys (Turn t) told taken old new = (taken ≡ Nothing) × BookTurns told old new

-- the connection of an event; 0 for a turn, which has none
abbrev pub conn_of : Event → ℕ
conn_of (Open c) = c
conn_of (Piece c bytes) = c
conn_of (End c) = c
conn_of (Fault c) = c
conn_of (Wrote c count) = c
conn_of (Turn t) = 0

-- the requests of a tenant that these events take, in their order
abbrev pub TakesIn : List (List ℕ) → ℕ → Book → List Event → List Effect → List QueuedRequest → Type 0
TakesIn keys t book [] [] all = all ≡ []
TakesIn keys t book (event ∷ events) (step ∷ steps) all =
    (taken : Taken) × (next : Book) × (rest : List QueuedRequest)
    × BookStep keys event step.told taken book next
    × (all ≡ entering keys (conn_of event) taken t ++ rest)
    × TakesIn keys t next events steps rest
TakesIn keys t book [] (step ∷ steps) all = ⊥
TakesIn keys t book (event ∷ events) [] all = ⊥

-- The requests of a tenant that events take, from any connections on, are one list. It is read off these
-- connections, the events and what was told.
abbrev pub OneListIsTaken : Type 0
OneListIsTaken = (keys : List (List ℕ)) (t : ℕ) (book : Book) (events : List Event) (steps : List Effect) (all others : List QueuedRequest)
    → TakesIn keys t book events steps all → TakesIn keys t book events steps others → all ≡ others
