use Rattle.portsd_text.specs.Transcript.{printed}
use Rattle.portsd_text.proofs.PrintFacts.{four_pushed}
use Rattle.portsd_text.proofs.transcript.push_step.Goals as goal

pub returns : goal.returns
unfolding printed
returns c =
    rw (← c.step.view_is, ← c.as_slice.ensures.value)
    (four_pushed c.push_closed.result _ _ _ _ _ _ _ _ _ c.in_ok-push_sent.ensures c.in_ok-push_told.ensures
    c.in_ok-push_refused.ensures c.push_closed.ensures)
