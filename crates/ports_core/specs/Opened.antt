-- The open connections.
use Rattle.std.specs.Prelude.{◌≡◌, ◌≢◌, ℕ, Bool, false, List, Option, Some, None}
use Rattle.std.specs.Ordering.{nat_cmp, is_eq}
use Rattle.std.specs.Map.{lookup}
use Rattle.ports_core.specs.declared.connection.Connection.{Connection}
use Rattle.ports_core.specs.Connections.{is_done}

-- the connection of this number among those that are open
abbrev pub connection_in : ℕ → List (ℕ × Connection) → Option Connection
connection_in c connections = lookup (λ k. is_eq (nat_cmp c k)) connections

-- the open connections, by their numbers
abbrev pub Book : Type 0
Book = ℕ → Option Connection

-- the book that a list is
abbrev pub book_in : List (ℕ × Connection) → Book
book_in connections c = connection_in c connections

-- no connection is open
abbrev pub no_connections : Book
no_connections c = None

-- no connection changes
abbrev pub KeepsConnections : Book → Book → Type 0
KeepsConnections old new = (d : ℕ) → new d ≡ old d

-- no connection changes but this one
abbrev pub KeepsOthers : ℕ → Book → Book → Type 0
KeepsOthers c old new = (d : ℕ) → d ≢ c → new d ≡ old d

-- the connection is open and done
abbrev pub is_connection_done : Option Connection → Bool
is_connection_done None = false
is_connection_done (Some connection) = is_done connection

-- the connection is open, and this is true of it
abbrev pub OpenAnd : Option Connection → (Connection → Type 0) → Type 0
OpenAnd None P = ⊥
OpenAnd (Some connection) P = P connection
