use Rattle.std.proofs.Common.{◌++◌, ◌+◌, ◌∙◌, sym, ap, string_bytes, drop, arith, add-one}
use Rattle.std.proofs.lemmas.List.{append-nil, append_assoc}
use Rattle.portsd_text.specs.Entries.{entry_of_event}
use Rattle.portsd_text.specs.Scripts.{numbered}
use Rattle.portsd_text.proofs.PrintFacts.{transcript-more, transcript-past, transcript-end}
use Rattle.portsd_text.proofs.transcript.transcript_text.Goals.{in-Some+in_ok-push_step, in_default}
use Rattle.portsd_text.proofs.transcript.transcript_text.Goals as goal

pub loop-index-preserved : goal.loop-index-preserved
loop-index-preserved c =
    let entries = numbered c.args.script.now in
    let steps = c.args.steps.now in
    let i = c.loop-index.index in
    let before = string_bytes c.loop-index.text in
    elim c.match-entry.branch [
      | in-Some+in_ok-push_step w ↦
          let more = transcript-more entries steps i (w.in-Some.line, entry_of_event w.in-Some.event.now) c.index-steps-index.result
          (sym w.in-Some.ensures) (omega arith) c.index-steps-index.is in
          rw (w.text-is, w.in_ok-push_step.ensures, add-one) (append_assoc before _ _ ∙ ap (λ x. before ++ x) (sym more)
          ∙ c.loop-index.invariant)
      | in_default w ↦
          let past = transcript-past entries (drop i steps) (drop (i + 1) steps) i (i + 1) (sym w.in_default.ensures) (omega arith) in
          rw w.text-is (ap (λ x. before ++ x) (sym past) ∙ c.loop-index.invariant)
    ]

pub returns : goal.returns
returns c =
    let i = c.loop-index.index in
    rw (transcript-end (numbered c.args.script.now) c.args.steps.now i i (omega arith), append-nil) at c.loop-index.invariant
