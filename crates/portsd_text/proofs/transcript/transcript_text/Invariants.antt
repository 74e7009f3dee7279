use Rattle.std.proofs.Common.{◌≡◌, ◌++◌, string_bytes, drop}
use Rattle.portsd_text.specs.Scripts.{numbered}
use Rattle.portsd_text.specs.Transcript.{transcript}
use Rattle.portsd_text.proofs.transcript.transcript_text.Given as goal

abbrev pub invariant-loop-index : goal.invariant-loop-index
invariant-loop-index l = string_bytes l.text ++ transcript (drop l.index (numbered l.script)) (drop l.index l.steps) ≡ transcript
    (numbered l.script) l.steps
