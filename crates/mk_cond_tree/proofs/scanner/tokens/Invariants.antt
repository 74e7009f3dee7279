use Rattle.std.proofs.Common.{◌≡◌, ◌≤◌, ◌-◌, ◌++◌, length, drop, option_map}
use Rattle.mk_cond_tree.specs.Scanner.{walk}
use Rattle.mk_cond_tree.proofs.scanner.tokens.Given as goal

abbrev pub invariant-loop-at : goal.invariant-loop-at
invariant-loop-at l = (option_map (λ later. l.found.items ++ later) (walk l.at 0 (drop l.at l.bytes)) ≡ walk 0 0 l.bytes)
    × (l.at ≤ length l.bytes)

abbrev pub decreases-loop-at : goal.decreases-loop-at
decreases-loop-at l = length l.bytes - l.at
