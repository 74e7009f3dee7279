use Rattle.std.proofs.Common.{◌||◌, length, ap, sym, ◌∙◌, subst, arith}
use Rattle.mk_glob.specs.Signs.{signs_of}
use Rattle.mk_glob.specs.Items.{bracketed}
use Rattle.mk_glob.specs.Brackets.{TestsMembers}
use Rattle.mk_glob.proofs.SignLemmas.{signs_of-empty}
use Rattle.mk_glob.proofs.BracketLemmas.{of_body, after_end, of_body-begins, member_read, after_end-empty, after_end-closes, after_end-next}
use Rattle.mk_glob.proofs.BracketLemmas.{bracketed-from_told, HasBracketMembers-from_told, EndsRange-shorter}
use Rattle.mk_glob.proofs.brackets.among_members.Goals as goal

pub returns-in_err-low : goal.returns-in_err-low
returns-in_err-low c =
    subst (TestsMembers c.args.body.now c.args.c) (sym c.from_residual.ensures)
    (ap bracketed (signs_of-empty c.args.body.now c.in_err-low.ensures))

pub loop-sign-init : goal.loop-sign-init
loop-sign-init c = (
  c.in_ok-low.ensures.is_text,
  ap (of_body c.args.c) c.in_ok-low.ensures.reads ∙ of_body-begins c.args.c c.in_ok-low.low (signs_of c.in_ok-low.rest.now),
)

pub loop-sign-preserved : goal.loop-sign-preserved
loop-sign-preserved c =
    let found = c.loop-sign.found || c.is_within-found.result in
    let read = member_read c.args.c (signs_of c.args.body.now) c.loop-sign.found c.loop-sign.low c.loop-sign.rest.now c.character.result
    c.range_end-high.result.0 c.range_end-high.result.1.now c.character-in-loop-sign.result c.is_within-found.result
    c.loop-sign.invariant.1 c.character.ensures c.range_end-high.ensures c.character-in-loop-sign.ensures c.is_within-found.ensures in (
      c.in_ok-sign.ensures.is_text,
      read ∙ ap (after_end c.args.c found) c.in_ok-sign.ensures.reads
          ∙ after_end-next c.args.c found c.in_ok-sign.sign (signs_of c.in_ok-sign.further.now) (sym c.if-is_bare.ensures),
    )

pub loop-sign-smaller : goal.loop-sign-smaller
loop-sign-smaller c =
    let shorter = EndsRange-shorter c.character.result c.loop-sign.rest.now c.range_end-high.result.0 c.range_end-high.result.1.now
    c.range_end-high.ensures in
    let n = ap length c.in_ok-sign.ensures.reads in omega arith

pub returns-in_err-sign : goal.returns-in_err-sign
returns-in_err-sign c =
    let found = c.loop-sign.found || c.is_within-found.result in
    let read = member_read c.args.c (signs_of c.args.body.now) c.loop-sign.found c.loop-sign.low c.loop-sign.rest.now c.character.result
    c.range_end-high.result.0 c.range_end-high.result.1.now c.character-in-loop-sign.result c.is_within-found.result
    c.loop-sign.invariant.1 c.character.ensures c.range_end-high.ensures c.character-in-loop-sign.ensures c.is_within-found.ensures in
    subst (TestsMembers c.args.body.now c.args.c) (sym c.from_residual-in_err-sign.ensures)
    (bracketed-from_told c.args.c (signs_of c.args.body.now)
    (read ∙ after_end-empty c.args.c found c.range_end-high.result.1.now c.in_err-sign.ensures))

pub returns-then-is_bare : goal.returns-then-is_bare
returns-then-is_bare c =
    let found = c.loop-sign.found || c.is_within-found.result in
    let read = member_read c.args.c (signs_of c.args.body.now) c.loop-sign.found c.loop-sign.low c.loop-sign.rest.now c.character.result
    c.range_end-high.result.0 c.range_end-high.result.1.now c.character-in-loop-sign.result c.is_within-found.result
    c.loop-sign.invariant.1 c.character.ensures c.range_end-high.ensures c.character-in-loop-sign.ensures c.is_within-found.ensures in
    HasBracketMembers-from_told c.args.c (signs_of c.args.body.now) found (signs_of c.in_ok-sign.further.now)
    (read ∙ ap (after_end c.args.c found) c.in_ok-sign.ensures.reads
    ∙ after_end-closes c.args.c found c.in_ok-sign.sign (signs_of c.in_ok-sign.further.now) (sym c.if-is_bare.ensures))
