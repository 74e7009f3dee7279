use Rattle.std.proofs.Common.{◌≡◌, ◌++◌, length, string_bytes}
use Rattle.portsd_text.specs.Escapes.{escaped_bytes}
use Rattle.portsd_text.proofs.transcript.push_escaped.Given as goal

abbrev pub invariant-loop-at : goal.invariant-loop-at
invariant-loop-at l = string_bytes l.text ++ escaped_bytes l.rest ≡ string_bytes l.initial.text ++ escaped_bytes l.bytes

abbrev pub decreases-loop-at : goal.decreases-loop-at
decreases-loop-at l = length l.rest
