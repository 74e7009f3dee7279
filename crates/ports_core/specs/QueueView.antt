-- What a contract sees of a `Queue`, and what is true of its fields.
use Rattle.std.specs.Prelude.{◌≤◌}
use Rattle.std.specs.VecDeque.{deque_capacity}
use Rattle.ports_core.specs.declared.queue.Queue.TheInside.{Inside}
use Rattle.ports_core.specs.Slices.{Queue}

-- the requests that wait
abbrev pub queue_view : Inside → Queue
queue_view q = q.waiting.items

-- there is a place for a request of each connection
abbrev pub IsQueue : Inside → Type 0
IsQueue q = 16 ≤ deque_capacity q.waiting
