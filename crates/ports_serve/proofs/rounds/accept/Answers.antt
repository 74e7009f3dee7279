use Rattle.ports_serve.proofs.Going.{opens_none, accepts_none, accepts_client}
use Rattle.ports_serve.proofs.rounds.accept.Goals as goal

pub returns-in-Got : goal.returns-in-Got
returns-in-Got g c =
    accepts_client g.W.Wire.after c.args.idle c.happen.result c.args.wire.now c.accept.new.self c.happen.new.wire c.args.service.now
    c.happen.new.service c.next_conn-conn.result c.in-Got._client
    c.next_conn-conn.ensures c.in-Got.ensures.after c.happen.ensures

pub returns-in-Nothing : goal.returns-in-Nothing
returns-in-Nothing g c =
    accepts_none g.W.Wire.after c.args.idle c.args.wire.now c.accept.new.self c.args.service.now c.next_conn-conn.result c.accept.result
    c.next_conn-conn.ensures (opens_none c.next_conn-conn.result c.accept.result c.in-Nothing.is) c.accept.ensures.after
