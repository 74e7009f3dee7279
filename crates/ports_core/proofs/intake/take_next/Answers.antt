use Rattle.ports_core.specs.Keys.{key_texts}
use Rattle.ports_core.proofs.TakingLemmas.{takes_nothing, takes_answer}
use Rattle.ports_core.proofs.intake.take_next.Goals as goal

pub returns-then-not-is_ready : goal.returns-then-not-is_ready
returns-then-not-is_ready c = takes_nothing (key_texts c.args.keys.now) c.args.conn c.args.queues.now c.args.connection.now (cc)

pub returns : goal.returns
returns c =
    takes_answer (key_texts c.args.keys.now) c.args.conn c.args.queues.now c.args.connection.now c.next_request-answer.new.self
    c.next_request-answer.result _ _ _ (cc) c.next_request-answer.ensures
    c.settle.ensures.told c.settle.ensures.connection c.settle.ensures.queues
