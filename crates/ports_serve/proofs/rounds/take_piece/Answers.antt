use Rattle.ports_serve.proofs.Going.{goes_as}
use Rattle.ports_serve.proofs.rounds.take_piece.Goals as goal

pub returns-clause-goes : goal.returns-clause-goes
returns-clause-goes g c =
    goes_as g.W.Wire.after c.args.wire.now c.happen-came.new.wire c.args.service.now c.happen-came.new.service
    (λ course goes. ((c.truncate.new.self, c.truncate.ensures.items, goes.0), goes.1)) c.happen-came.ensures
