use Rattle.std.proofs.Common.{◌≡◌, ◌-◌, length}
use Rattle.ports_core.specs.State.{keys_of}
use Rattle.ports_serve.specs.Rounds.{TakesTurn, Each, numbers_from}
use Rattle.ports_serve.proofs.Going.{Underway}
use Rattle.ports_serve.proofs.rounds.turn_all.Given as goal

-- the tenants so far had their turns
abbrev pub invariant-loop-tenant : goal.invariant-loop-tenant
invariant-loop-tenant g l = record {
  going : Underway g.W.Wire.after l.worked (Each TakesTurn (numbers_from 0 (length (keys_of l.fn.service))))
      (Each TakesTurn (numbers_from l.tenant (length (keys_of l.fn.service) - l.tenant))) l.fn.wire l.fn.service l.wire l.service;
  keys : keys_of l.service ≡ keys_of l.fn.service;
}
