use Rattle.portsd_text.specs.Failures.{failure_text}
use Rattle.portsd_text.proofs.WriteFacts.{up_to}
use Rattle.portsd_text.proofs.failure.report.Goals as goal

pub returns-clause-said : goal.returns-clause-said
returns-clause-said g c =
    up_to (g.E.Write.contents c.args.err.now) (g.E.Write.contents c.say.new.err) (failure_text c.args.failure) c.say.result
    c.say.ensures.written c.say.ensures.front
