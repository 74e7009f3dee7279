use Rattle.std.proofs.Common.{◌≡◌, ◌-◌, false, arith, length, refl, subst, ◌∙◌}
use Rattle.ports_core.specs.State.{keys_of}
use Rattle.ports_serve.specs.Rounds.{TakesTurn, Each, numbers_from}
use Rattle.ports_serve.proofs.Going.{Underway, begins, item_then, goes_through, none_left, ends, next_number, no_number, turn_keeps_keys}
use Rattle.ports_serve.proofs.rounds.turn_all.Goals as goal

pub loop-tenant-init : goal.loop-tenant-init
loop-tenant-init g c =
    let count = length (keys_of c.args.service.now) in
    let all : count ≡ count - 0 = omega arith in
    record {
      going = subst (λ left. Underway g.W.Wire.after false (Each TakesTurn (numbers_from 0 count)) (Each TakesTurn (numbers_from 0 left))
          c.args.wire.now c.args.service.now c.args.wire.now c.args.service.now) all
          (begins g.W.Wire.after (Each TakesTurn (numbers_from 0 count)) c.args.wire.now c.args.service.now);
      keys = refl;
    }

pub loop-tenant-preserved : goal.loop-tenant-preserved
loop-tenant-preserved g c = record {
  going =
      goes_through g.W.Wire.after c.loop-tenant.worked c.happen-told.result c.args.wire.now c.loop-tenant.wire c.happen-told.new.wire
      c.args.service.now c.loop-tenant.service c.happen-told.new.service
      (item_then TakesTurn c.loop-tenant.tenant c.loop-tenant.service c.happen-told.new.service
      (next_number c.loop-tenant.tenant (length (keys_of c.args.service.now))
      (omega (arith, c.loop-tenant-test.true, c.tenants-tenant-end.ensures))))
      c.loop-tenant.invariant.going c.happen-told.ensures;
  keys =
      turn_keeps_keys g.W.Wire.after c.loop-tenant.tenant c.loop-tenant.wire c.happen-told.new.wire c.loop-tenant.service
      c.happen-told.new.service c.happen-told.result c.happen-told.ensures
      ∙ c.loop-tenant.invariant.keys;
}

pub returns : goal.returns
returns g c =
    ends g.W.Wire.after c.loop-tenant.worked c.args.wire.now c.loop-tenant.wire c.args.service.now c.loop-tenant.service
    (none_left TakesTurn c.loop-tenant.service (no_number c.loop-tenant.tenant (length (keys_of c.args.service.now))
    (omega (arith, c.loop-tenant-test.false, c.tenants-tenant-end.ensures))))
    c.loop-tenant.invariant.going
