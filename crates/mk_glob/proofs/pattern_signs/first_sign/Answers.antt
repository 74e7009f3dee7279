use Rattle.mk_glob.proofs.SignLemmas.{begins_with_plain, begins_with_bare, begins_with_last}
use Rattle.mk_glob.proofs.pattern_signs.first_sign.Goals as goal
use Rattle.mk_glob.proofs.pattern_signs.first_sign.Goals.{then-first-eq92+in_default, else-first-eq92}

pub returns-in-Some : goal.returns-in-Some
returns-in-Some c =
    begins_with_plain c.args.pattern.now c.in_ok-first.first c.in_ok-first.behind.now c.in-Some.plain c.in-Some.further.now
    c.if-first-eq92.true c.in_ok-first.ensures c.in-Some.ensures

pub returns : goal.returns
returns c = elim c.if-first-eq92.branch [
  | then-first-eq92+in_default w ↦ begins_with_last c.args.pattern.now c.in_ok-first.first c.in_ok-first.behind.now
      w.in_default.ensures c.in_ok-first.ensures
  | else-first-eq92 w ↦ begins_with_bare c.args.pattern.now c.in_ok-first.first c.in_ok-first.behind.now
      w.if-first-eq92.false c.in_ok-first.ensures
]
