use Rattle.std.proofs.Common.{◌≡◌, ◌∷◌, [], rules, sym, ap, ◌∙◌, false, Some}
use Rattle.portsd_text.specs.Entries.{entry_of_event, event_of}
use Rattle.portsd_text.specs.Scripts.{is_passed_over, put_before, numbered}
use Rattle.portsd_text.proofs.ScriptFacts.{put_before-twice, with_line-event, OnOk-then}
use Rattle.portsd_text.proofs.script.push_line.Goals as goal

pub returns-in-Some-clause-ok : goal.returns-in-Some-clause-ok
returns-in-Some-clause-ok c =
    let other : is_passed_over c.args.text.now ≡ false = search rules in
    let event : event_of c.args.text.now ≡ Some (entry_of_event c.in-Some.event) = sym (rw c.in-Some.is at c.in_ok-event.ensures) in
    OnOk-then _ _ c.push.result
    (λ added later.
    ap (put_before (numbered c.args.script.now))
    (with_line-event c.args.line c.args.text.now (entry_of_event c.in-Some.event) later other event)
    ∙ put_before-twice (numbered c.args.script.now) ((c.args.line, entry_of_event c.in-Some.event) ∷ []) later
    ∙ ap (λ entries. put_before entries later) (sym added))
    c.push.ensures.added
