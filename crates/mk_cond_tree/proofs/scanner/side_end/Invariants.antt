use Rattle.std.proofs.Common.{◌≡◌, drop}
use Rattle.mk_cond_tree.specs.Tokens.{is_stop}
use Rattle.mk_cond_tree.specs.Scanner.{first_or_end}
use Rattle.mk_cond_tree.proofs.scanner.side_end.Given as goal

abbrev pub invariant-loop-at : goal.invariant-loop-at
invariant-loop-at l = first_or_end is_stop l.at (drop l.at l.bytes) ≡ first_or_end is_stop l.start (drop l.start l.bytes)
