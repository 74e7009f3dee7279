use Rattle.std.proofs.Common.{drop}
use Rattle.ports_core.specs.State.{connections_of}
use Rattle.ports_serve.specs.Rounds.{ReadsOnce, Each}
use Rattle.ports_serve.specs.Buffers.{IsBuffer}
use Rattle.ports_serve.proofs.Going.{Underway}
use Rattle.ports_serve.proofs.rounds.read_all.Given as goal

-- the connections so far were read
abbrev pub invariant-loop-conn : goal.invariant-loop-conn
invariant-loop-conn g l = record {
  going : Underway g.W.Wire.after l.heard (Each ReadsOnce (connections_of l.fn.service))
      (Each ReadsOnce (drop l.conn-index (connections_of l.fn.service))) l.fn.wire l.fn.service l.wire l.service;
  buffer : IsBuffer l.buffer;
}
