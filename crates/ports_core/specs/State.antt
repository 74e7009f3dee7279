-- A service as its callers see it.
use Rattle.std.specs.Prelude.{◌≡◌, ℕ, ◌<◌, ◌-◌, ◌^◌, Bool, ◌||◌, nat_le, List, [], length, map, slice_get}
use Rattle.std.specs.Prelude.{Option, None, option_map, unwrap_or}
use Rattle.ports_core.specs.declared.connection.Connection.{Connection}
use Rattle.ports_core.specs.declared.event.Event.{Event}
use Rattle.ports_core.specs.declared.event.Event.TheVariants.{Open, Piece, End, Fault, Wrote, Turn}
use Rattle.mk_paths.specs.World.{World, opening_world}
use Rattle.ports_core.specs.Slices.{Slice, Queue, sliced}
use Rattle.ports_core.specs.declared.job.Job.{Job}
use Rattle.ports_core.specs.Jobs.{TenantJob, job_in, had_by}
use Rattle.ports_core.specs.Sharing.{Sizes, Sharing, unused}
use Rattle.ports_core.specs.Connections.{MayHappenTo, room_on}
use Rattle.ports_core.specs.Opened.{Book, connection_in, OpenAnd}

-- the tenants' keys, worlds and queues, in the order of the tenants' numbers; the open connections by their
-- numbers; the number of the next one; the tenants' jobs; and what the tenants share
abbrev pub State : Type 0
State = List (List ℕ) × List World × List Queue × List (ℕ × Connection) × ℕ × List (Option TenantJob) × Sharing

abbrev pub keys_of : State → List (List ℕ)
keys_of state = state.0

abbrev pub worlds_of : State → List World
worlds_of state = state.1

abbrev pub queues_of : State → List Queue
queues_of state = state.2

-- the world of a tenant, and the requests that wait for its turns, if there is a tenant of this number
abbrev pub world_at : ℕ → State → Option World
world_at t state = slice_get (worlds_of state) t

abbrev pub queue_at : ℕ → State → Option Queue
queue_at t state = slice_get (queues_of state) t

-- the world and the requests together
abbrev pub slice_of : ℕ → State → Option Slice
slice_of t state = sliced (world_at t state) (queue_at t state)

abbrev pub jobs_of : State → List (Option TenantJob)
jobs_of state = state.5

-- the job of a tenant, if there is one
abbrev pub job_at : ℕ → State → Option TenantJob
job_at t state = job_in t (jobs_of state)

-- what the tenant's first request has had so far: nothing, if there is no such tenant or no job
abbrev pub had_at : ℕ → State → Job
had_at t state = had_by (job_at t state)

-- what the tenants share
abbrev pub sharing_of : State → Sharing
sharing_of state = state.6

-- the numbers of the open connections, in rising order
abbrev pub connections_of : State → List ℕ
connections_of state = map (λ (entry : ℕ × Connection). entry.0) state.3

-- a connection, if it is open
abbrev pub connection_of : ℕ → State → Option Connection
connection_of c state = connection_in c state.3

-- the connections of a service
abbrev pub book_of : State → Book
book_of state c = connection_of c state

-- the number of the next connection
abbrev pub next_of : State → ℕ
next_of state = state.4

-- 16 connections are open, or no number is left for another
abbrev pub is_full : State → Bool
is_full state = nat_le 16 (length state.3) || nat_le (2 ^ 64 - 1) (next_of state)

-- a service with these keys and sizes that has just begun
abbrev pub new_state : List (List ℕ) → Sizes → State
new_state keys sizes =
    (keys, map (λ key. opening_world) keys, map (λ key. []) keys, [], 0, map (λ key. None) keys, unused sizes)

-- An event may happen. A connection that opens has the next number; a tenant that has a turn exists; and
-- any other event fits its connection, which is open.
abbrev pub IsAllowed : Event → State → Type 0
IsAllowed (Open c) state = c ≡ next_of state
IsAllowed (Piece c bytes) state = OpenAnd (connection_of c state) (MayHappenTo (Piece c bytes))
IsAllowed (End c) state = OpenAnd (connection_of c state) (MayHappenTo (End c))
IsAllowed (Fault c) state = OpenAnd (connection_of c state) (MayHappenTo (Fault c))
IsAllowed (Wrote c count) state = OpenAnd (connection_of c state) (MayHappenTo (Wrote c count))
IsAllowed (Turn t) state = t < length (keys_of state)

-- how many bytes may come on a connection
abbrev pub room_at : ℕ → State → ℕ
room_at c state = unwrap_or (option_map room_on (connection_of c state)) 0

-- the bytes that a connection has still to write
abbrev pub pending_at : ℕ → State → List ℕ
pending_at c state = unwrap_or (option_map (λ connection. connection.pending) (connection_of c state)) []

-- how many requests wait for a tenant's turns
abbrev pub waiting_at : ℕ → State → ℕ
waiting_at t state = unwrap_or (option_map length (queue_at t state)) 0
