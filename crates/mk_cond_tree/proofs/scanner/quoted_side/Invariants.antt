use Rattle.std.proofs.Common.{◌≡◌, ◌==◌, drop}
use Rattle.mk_cond_tree.specs.Scanner.{place_of_first}
use Rattle.mk_cond_tree.proofs.scanner.quoted_side.Given as goal

abbrev pub invariant-loop-end : goal.invariant-loop-end
invariant-loop-end l = place_of_first (λ b. b == 34) l.end (drop l.end l.bytes) ≡ place_of_first (λ b. b == 34)
    l.start (drop l.start l.bytes)
