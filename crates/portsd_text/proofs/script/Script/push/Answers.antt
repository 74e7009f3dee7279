use Rattle.std.proofs.Common.{arith}
use Rattle.portsd_text.proofs.ScriptFacts.{zip-push}
use Rattle.portsd_text.proofs.script.Script.push.Goals as goal

pub returns-clause-added : goal.returns-clause-added
returns-clause-added c =
    let script = c.args.self.now in
    rw (c.in_ok-push.ensures.items, c.in_ok-push-2.ensures.items) (zip-push script.lines.items script.events.items c.args.line c.args.event
    (omega (arith, script.lines.ok.0, script.events.ok.0)))
