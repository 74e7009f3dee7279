-- What happens to open connections. Only functions that are private to the crate are told of by these names.
use Rattle.std.specs.Prelude.{◌≡◌, ◌≢◌, ℕ, All, List, String, None, Option, option_and_then, option_map}
use Rattle.std.specs.Global.{Global}
use Rattle.ports_http.specs.Messages.{ReplyMessage}
use Rattle.ports_core.specs.Books.{HearsOn}
use Rattle.ports_core.specs.Connections.{MayHappenTo, answered, closing_number, kept}
use Rattle.ports_core.specs.Keys.{key_texts}
use Rattle.ports_core.specs.Opened.{OpenAnd, book_in, connection_in}
use Rattle.ports_core.specs.Places.{HasPlace}
use Rattle.ports_core.specs.Slices.{Queue}
use Rattle.ports_core.specs.Intake.{Joins, Taken, TakesNext, connection_after}
use Rattle.ports_core.specs.declared.connection.Connection.{Connection}
use Rattle.ports_core.specs.declared.event.Event.{Event}
use Rattle.ports_core.specs.declared.event.Tell.{Tell}
use Rattle.ports_core.specs.declared.event.Told.{Told}

-- a connection is open, and unless it waits, another request has a place with each tenant
abbrev pub HavePlacesFor : Option Connection → List Queue → Type 0
HavePlacesFor connection queues = OpenAnd connection (λ there. there.waits ≡ None → All HasPlace queues)

-- a connection is open, and an event fits it
abbrev pub MayHear : Option Connection → Event → Type 0
MayHear connection event = OpenAnd connection (MayHappenTo event)

-- an event is carried out on this connection, what it takes off that joins its queue, and so much is told
abbrev pub HearsAndTakes : List (String Global) → Event → ℕ → Told → (old new : List (ℕ × Connection))
    → (waiting later : List Queue) → Type 0
HearsAndTakes keys event c told old new waiting later =
    (taken : Taken) × HearsOn (key_texts keys) event c told taken (book_in old) (book_in new)
    × Joins (key_texts keys) c taken waiting later

-- what comes first on this connection is taken off it and joins its queue, and this is told of it at once
abbrev pub TakesFirst : List (String Global) → ℕ → Option Tell → (old new : Connection) → (waiting later : List Queue) → Type 0
TakesFirst keys c told old new waiting later =
    (taken : Taken) × TakesNext (key_texts keys) c taken told old new × Joins (key_texts keys) c taken waiting later

-- a connection is as it is after this was taken off it
abbrev pub IsAfterTaking : List (String Global) → Taken → (old new : Connection) → Type 0
IsAfterTaking keys taken old new = new ≡ connection_after (key_texts keys) taken old

-- the waiting request of this connection is answered, if the connection is open
abbrev pub AnswersOn : ℕ → ReplyMessage → (old new : List (ℕ × Connection)) → Type 0
AnswersOn c reply old new = connection_in c new ≡ option_map (answered reply) (connection_in c old)

-- no connection changes but this one
abbrev pub KeepsOthersIn : ℕ → (old new : List (ℕ × Connection)) → Type 0
KeepsOthersIn c old new = (d : ℕ) → d ≢ c → connection_in d new ≡ connection_in d old

-- this connection stays open unless it is done
abbrev pub KeepsUnlessDone : ℕ → (old new : List (ℕ × Connection)) → Type 0
KeepsUnlessDone c old new = connection_in c new ≡ option_and_then kept (connection_in c old)

-- the number of this connection is told if it closes
abbrev pub TellsClosing : ℕ → List (ℕ × Connection) → Option ℕ → Type 0
TellsClosing c connections told = told ≡ option_and_then (closing_number c) (connection_in c connections)
