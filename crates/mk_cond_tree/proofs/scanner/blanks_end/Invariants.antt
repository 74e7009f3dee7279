use Rattle.std.proofs.Common.{◌≡◌, not, drop}
use Rattle.mk_text.specs.Blanks.{is_blank}
use Rattle.mk_cond_tree.specs.Scanner.{first_or_end}
use Rattle.mk_cond_tree.proofs.scanner.blanks_end.Given as goal

abbrev pub invariant-loop-at : goal.invariant-loop-at
invariant-loop-at l = first_or_end (λ b. not (is_blank b)) l.at (drop l.at l.bytes) ≡ first_or_end (λ b. not (is_blank b))
    l.start (drop l.start l.bytes)
