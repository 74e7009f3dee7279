use Rattle.std.proofs.Common.{◌≡◌, ◌==◌, ◌+◌, ◌≤◌, length, vec_len}
use Rattle.std.specs.List.{slice_split}
use Rattle.portsd_text.specs.Scripts.{put_before, numbered, events_from, script_of}
use Rattle.portsd_text.proofs.script.read_lines.Given as goal

abbrev pub invariant-loop-front : goal.invariant-loop-front
invariant-loop-front l = record {
  paired : vec_len l.script.lines ≡ vec_len l.script.events;
  same : put_before (numbered l.script) (events_from l.whole l.line (slice_split (λ byte. byte == 10) l.rest)) ≡ script_of l.whole l.text;
  bounded : l.line + length l.rest ≤ length l.text + 1;
}

abbrev pub decreases-loop-front : goal.decreases-loop-front
decreases-loop-front l = length l.rest
