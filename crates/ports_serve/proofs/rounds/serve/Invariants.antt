use Rattle.std.proofs.Common.{◌-◌, Bool, false}
use Rattle.ports_serve.specs.Rounds.{Rounds}
use Rattle.ports_serve.specs.Buffers.{IsBuffer}
use Rattle.ports_serve.proofs.Going.{Underway}
use Rattle.ports_serve.proofs.rounds.serve.Given as goal

-- so many rounds went by
abbrev pub invariant-loop-round : goal.invariant-loop-round
invariant-loop-round g l = record {
  going : (came : Bool) × Underway g.W.Wire.after came (Rounds l.rounds false) (Rounds (l.rounds - l._round) l.idle) l.fn.wire
      l.fn.service l.wire l.service;
  buffer : IsBuffer l.buffer;
}
