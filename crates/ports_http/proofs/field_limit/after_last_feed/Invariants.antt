use Rattle.std.proofs.Common.{◌≤◌, ◌==◌, not, length, drop}
use Rattle.httparse.specs.Ascii.{line_feed}
use Rattle.httparse.specs.Grammar.{AllPass}
use Rattle.ports_http.proofs.field_limit.after_last_feed.Given as goal

-- no line feed follows
abbrev pub invariant-loop-at : goal.invariant-loop-at
invariant-loop-at l = (l.at ≤ length l.bytes) × AllPass (λ b. not (b == line_feed)) (drop l.at l.bytes)

abbrev pub decreases-loop-at : goal.decreases-loop-at
decreases-loop-at l = l.at
