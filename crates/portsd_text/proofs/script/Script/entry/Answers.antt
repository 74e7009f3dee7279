use Rattle.std.proofs.Common.{sym}
use Rattle.portsd_text.proofs.ScriptFacts.{entry-none_left, entry-none_right, entry-some}
use Rattle.portsd_text.proofs.script.Script.entry.Goals as goal

pub returns-in_err-line : goal.returns-in_err-line
returns-in_err-line c =
    let script = c.args.self.now in
    let past = rw c.deref.ensures.value at c.in_err-line.ensures.lookup.3 in
    rw c.from_residual.ensures (sym (entry-none_left script.lines.items script.events.items c.args.index past))

pub returns-in_err-event : goal.returns-in_err-event
returns-in_err-event c =
    let script = c.args.self.now in
    let past = rw c.deref-2.ensures.value at c.in_err-event.ensures.lookup.3 in
    rw c.from_residual-in_err-event.ensures (sym (entry-none_right script.lines.items script.events.items c.args.index past))

pub returns : goal.returns
returns c =
    let script = c.args.self.now in
    let line = rw c.deref.ensures.value at c.in_ok-line.ensures.lookup.3 in
    let event = rw c.deref-2.ensures.value at c.in_ok-event.ensures.lookup.3 in
    sym (entry-some script.lines.items script.events.items c.args.index c.in_ok-line.line.now c.in_ok-event.event.now
    line.0 event.0 line.1 event.1)
