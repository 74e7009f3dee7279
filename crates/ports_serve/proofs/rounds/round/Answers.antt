use Rattle.std.proofs.Common.{ap, not, ◌||◌}
use Rattle.ports_serve.proofs.Going.{goes_round}
use Rattle.ports_serve.proofs.rounds.round.Goals as goal

pub returns-clause-goes : goal.returns-clause-goes
returns-clause-goes g c =
    goes_round g.W.Wire.after c.args.idle c.accept-accepted.result c.read_all-buffer.result.1 c.write_all-written.result
    c.turn_all-told.result _
    c.args.wire.now c.accept-accepted.new.wire c.read_all-buffer.new.wire c.write_all-written.new.wire c.turn_all-told.new.wire
    c.args.service.now c.accept-accepted.new.service c.read_all-buffer.new.service c.write_all-written.new.service
    c.turn_all-told.new.service
    (ap (λ waits. not ((((c.accept-accepted.result || c.read_all-buffer.result.1) || c.write_all-written.result) || c.turn_all-told.result)
    || waits)) c.requests_wait.ensures)
    c.accept-accepted.ensures c.read_all-buffer.ensures.goes c.write_all-written.ensures c.turn_all-told.ensures
