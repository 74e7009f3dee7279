-- The makefile is the same, and the evaluation goes on.
use Rattle.eval_cache.specs.Keys.{key_for}
use Rattle.question_turns.proofs.port_ask.PortAsk.turn.Goals as goal

pub returns-clause-goes_on : goal.returns-clause-goes_on
returns-clause-goes_on g c = λ settings path is. record {
  placed = is.placed;
  came = c.in_ok-came.ensures.turns.comes (key_for settings c.args.self.makefile path.flavors) is.came;
}
