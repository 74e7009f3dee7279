use Rattle.std.proofs.Common.{drop}
use Rattle.ports_core.specs.State.{connections_of}
use Rattle.ports_serve.specs.Rounds.{Writes, Each}
use Rattle.ports_serve.proofs.Going.{Underway}
use Rattle.ports_serve.proofs.rounds.write_all.Given as goal

-- the connections so far were written to
abbrev pub invariant-loop-conn : goal.invariant-loop-conn
invariant-loop-conn g l = Underway g.W.Wire.after l.written (Each Writes (connections_of l.fn.service))
    (Each Writes (drop l.conn-index (connections_of l.fn.service))) l.fn.wire l.fn.service l.wire l.service
