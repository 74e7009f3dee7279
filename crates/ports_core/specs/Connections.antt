-- One connection, as its other side sees it.
use Rattle.std.specs.Prelude.{◌≡◌, ℕ, ◌≤◌, Bool, true, false, ◌&&◌, ◌||◌, not, ◌==◌, List, [], length, drop, Option}
use Rattle.std.specs.Prelude.{Some, None, is_none, if◌then◌else◌}
use Rattle.ports_http.specs.Messages.{ReplyMessage}
use Rattle.ports_http.specs.Replies.{reply_text}
use Rattle.ports_http.specs.UnreadBytes.{opening_stream, ended, fed, room_of}
use Rattle.ports_core.specs.declared.connection.Connection.{Connection}
use Rattle.ports_core.specs.declared.event.Event.{Event}
use Rattle.ports_core.specs.declared.event.Event.TheVariants.{Open, Piece, End, Fault, Wrote, Turn}

-- A connection has these parts. stream: the bytes that came and aren't taken. pending: the bytes to be
-- written. waits: the tenant in whose queue its request waits. ended: whether the other side sends no more.
-- lost: whether the connection is lost.

-- a connection that has just opened
abbrev pub new_connection : Connection
new_connection = record { stream = opening_stream; pending = []; waits = None; ended = false; lost = false }

-- how many bytes may come
abbrev pub room_on : Connection → ℕ
room_on connection = if connection.ended then 0 else room_of connection.stream

-- nothing is to be written
abbrev pub is_empty : List ℕ → Bool
is_empty bytes = length bytes == 0

-- the next request may be taken: nothing waits, nothing is pending, and the connection isn't lost
abbrev pub is_ready : Connection → Bool
is_ready connection = is_none connection.waits && is_empty connection.pending && not connection.lost

-- the connection closes: its stream has ended, nothing waits, and nothing is pending
abbrev pub is_done : Connection → Bool
is_done connection = is_none connection.waits && is_empty connection.pending && (connection.ended || connection.stream.over)

-- these bytes are to be written
abbrev pub with_pending : List ℕ → Connection → Connection
with_pending bytes connection = record connection { pending = bytes }

-- how many bytes a Wrote takes off: the number that it names, or all
abbrev pub count_off : Option ℕ → List ℕ → ℕ
count_off None bytes = length bytes
count_off (Some count) bytes = count

-- what an event does to its connection before a request is taken
abbrev pub hears : Event → Connection → Connection
hears (Open c) connection = connection
hears (Piece c bytes) connection = record connection { stream = fed connection.stream bytes.items }
hears (End c) connection = record connection { ended = true }
hears (Fault c) connection = record connection { stream = ended; pending = []; lost = true }
hears (Wrote c None) connection = record connection { pending = [] }
hears (Wrote c (Some count)) connection = record connection { pending = drop count connection.pending }
hears (Turn t) connection = connection

-- an event may happen to the connection: what comes has room, and what was written was pending
abbrev pub MayHappenTo : Event → Connection → Type 0
MayHappenTo (Open c) connection = Unit {0}
MayHappenTo (Piece c bytes) connection = (connection.ended ≡ false) × (length bytes.items ≤ room_on connection)
MayHappenTo (End c) connection = Unit {0}
MayHappenTo (Fault c) connection = Unit {0}
MayHappenTo (Wrote c None) connection = Unit {0}
MayHappenTo (Wrote c (Some count)) connection = count ≤ length connection.pending
MayHappenTo (Turn t) connection = Unit {0}

-- The waiting request is answered. If the connection isn't lost, the reply's bytes are to be written. They
-- say that the connection closes if the request was the last of its stream.
abbrev pub answered : ReplyMessage → Connection → Connection
answered reply connection =
    record connection { waits = None; pending = if connection.lost then connection.pending else reply_text reply connection.stream.over }

-- whether a reply on the connection says that the connection closes
abbrev pub closes_on : Option Connection → Bool
closes_on None = false
closes_on (Some connection) = connection.stream.over

-- the connection stays open unless it is done
abbrev pub kept : Connection → Option Connection
kept connection = if is_done connection then None else Some connection

-- the number of the connection that closes, if it does
abbrev pub closing_number : ℕ → Connection → Option ℕ
closing_number c connection = if is_done connection then Some c else None
