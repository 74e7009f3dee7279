use Rattle.std.proofs.Common.{◌≡◌, ◌≤◌, drop}
use Rattle.mk_cond_tree.specs.Scanner.{closing_place}
use Rattle.mk_cond_tree.proofs.scanner.closing_place.Given as goal

abbrev pub invariant-loop-at : goal.invariant-loop-at
invariant-loop-at l = (closing_place l.at l.depth (drop l.at l.bytes) ≡ closing_place l.start 0 (drop l.start l.bytes)) × (l.depth ≤ l.at)
