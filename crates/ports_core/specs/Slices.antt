-- What a service is to one tenant: its world, and the requests that wait for its turns.
use Rattle.std.specs.Prelude.{List, [], ◌++◌, Option, Some, None}
use Rattle.ports_core.specs.declared.queue.QueuedRequest.{QueuedRequest}
use Rattle.mk_paths.specs.World.{World, opening_world}

-- the requests that wait, the oldest first; a QueuedRequest is a request and the connection that asked
abbrev pub Queue : Type 0
Queue = List QueuedRequest

abbrev pub Slice : Type 0
Slice = World × Queue

abbrev pub world_of : Slice → World
world_of slice = slice.0

abbrev pub waiting_of : Slice → Queue
waiting_of slice = slice.1

-- a tenant in the world in which each begins, for which nothing waits
abbrev pub new_slice : Slice
new_slice = (opening_world, [])

-- requests wait after the others
abbrev pub with_requests : List QueuedRequest → Slice → Slice
with_requests queued_requests slice = (slice.0, slice.1 ++ queued_requests)

-- a world and a queue, if both are there
abbrev pub sliced : Option World → Option Queue → Option Slice
sliced None queue = None
sliced (Some world) None = None
sliced (Some world) (Some queue) = Some (world, queue)
