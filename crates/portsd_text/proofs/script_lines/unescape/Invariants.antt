use Rattle.std.proofs.Common.{◌≡◌, ◌++◌, length, option_map}
use Rattle.portsd_text.specs.Escapes.{unescaped}
use Rattle.portsd_text.proofs.script_lines.unescape.Given as goal

abbrev pub invariant-loop-at : goal.invariant-loop-at
invariant-loop-at l = option_map (λ later. l.bytes.items ++ later) (unescaped l.rest) ≡ unescaped l.text

abbrev pub decreases-loop-at : goal.decreases-loop-at
decreases-loop-at l = length l.rest
