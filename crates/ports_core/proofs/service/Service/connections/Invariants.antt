use Rattle.std.proofs.Common.{◌≡◌, ◌++◌}
use Rattle.ports_core.specs.State.{connections_of}
use Rattle.ports_core.proofs.service.Service.connections.Given as goal

-- the numbers taken so far, before those that are left
abbrev pub invariant-loop-conn : goal.invariant-loop-conn
invariant-loop-conn g l =
    (goal.iterator-loop-conn g).can_next l.conn-iterator ×
    (goal.iterator-loop-conn g).is_finite l.conn-iterator ×
    (l.numbers.items ++ l.conn-iterator ≡ connections_of l.self)
