use Rattle.std.proofs.Common.{refl, []}
use Rattle.ports_serve.proofs.Going.{happens_on, event_brings}
use Rattle.ports_serve.proofs.rounds.happen.Goals as goal

pub returns : goal.returns
returns g c =
    happens_on g.W.Wire.after c.args.wire.now c.shut_unopened.new.wire c.shut_closed.new.wire c.args.service.now c.step-told.new.self
    c.args.event.now c.step-told.result _
    (event_brings c.args.event.now (record { told = c.step-told.result; sent = [] }) c.is_from_client.result c.is_some.result
    c.is_from_client.ensures c.is_some.ensures)
    (record {
      allowed = c.requires;
      sent = refl;
      does = c.step-told.ensures.does;
      spends = c.step-told.ensures.spends;
      short = c.step-told.ensures.short;
      jobs = c.step-told.ensures.jobs;
    })
    c.shut_unopened.ensures c.shut_closed.ensures
