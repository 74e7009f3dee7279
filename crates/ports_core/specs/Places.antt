-- The places in which requests wait: one for each connection that may be open.
use Rattle.std.specs.Prelude.{◌≡◌, ℕ, ◌<◌, ◌≤◌, ◌==◌, List, length, filter, slice_get, Option, Some, None, if◌then◌else◌}
use Rattle.ports_core.specs.declared.connection.Connection.{Connection}
use Rattle.ports_core.specs.declared.queue.QueuedRequest.{QueuedRequest}
use Rattle.ports_core.specs.Slices.{Queue}
use Rattle.ports_core.specs.Opened.{connection_in}

-- there is a place left in which another request can wait for the tenant
abbrev pub HasPlace : Queue → Type 0
HasPlace queue = length queue < 16

-- how many of these requests are of a connection
abbrev pub count_from : ℕ → Queue → ℕ
count_from c queued_requests = length (filter (λ (w : QueuedRequest). w.conn == c) queued_requests)

-- how many requests of a connection may wait for a tenant: one, if the connection waits for that tenant
abbrev pub may_wait : ℕ → Option ℕ → ℕ
may_wait t None = 0
may_wait t (Some tenant) = if tenant == t then 1 else 0

abbrev pub may_wait_on : ℕ → Option Connection → ℕ
may_wait_on t None = 0
may_wait_on t (Some connection) = may_wait t connection.waits

-- each request that waits is the one request of an open connection that waits for this tenant
abbrev pub AreSeated : List Queue → List (ℕ × Connection) → Type 0
AreSeated queues connections =
    (t c : ℕ) (queue : Queue) → slice_get queues t ≡ Some queue
    → count_from c queue ≤ may_wait_on t (connection_in c connections)
