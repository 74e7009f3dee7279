use Rattle.std.proofs.Common.{Some, None, sym, ap, ◌∙◌}
use Rattle.std.proofs.lemmas.Result.{err_from_is_err_and}
use Rattle.mk_mods.proofs.JoinSteps.{overlong-of}
use Rattle.mk_mods.proofs.Replacing.{cut-of, somewhere-none, somewhere-all, somewhere-first, some-bytes}
use Rattle.mk_mods.proofs.substitution.somewhere_replaced.Goals as goal

pub returns-in-None-clause-ok : goal.returns-in-None-clause-ok
returns-in-None-clause-ok c = somewhere-none c.args.every c.args.old.now c.args.new.now c.args.word.now
    (cut-of c.args.old.now c.args.word.now None c.in-None.ensures.cases)

pub returns-in_ok-all_replaced-in-Some-clause-ok : goal.returns-in_ok-all_replaced-in-Some-clause-ok
returns-in_ok-all_replaced-in-Some-clause-ok c =
    somewhere-all c.args.every c.args.old.now c.args.new.now c.args.word.now c.in-Some.front.now c.in-Some.behind.now c.if-every.true
    (some-bytes c.args.old.now (sym c.is_empty.ensures ∙ c.if-is_empty.false))
    (cut-of c.args.old.now c.args.word.now (Some (c.in-Some.front, c.in-Some.behind)) c.in-Some.ensures.cases)
    ∙ ap Some (sym c.in_ok-all_replaced-in-Some.ensures.ok.1)

pub returns-in_ok-joined-in-Some-clause-ok : goal.returns-in_ok-joined-in-Some-clause-ok
returns-in_ok-joined-in-Some-clause-ok c =
    somewhere-first c.args.every c.args.old.now c.args.new.now c.args.word.now c.in-Some.front.now c.in-Some.behind.now c.if-every.false
    (some-bytes c.args.old.now (sym c.is_empty.ensures ∙ c.if-is_empty.false))
    (cut-of c.args.old.now c.args.word.now (Some (c.in-Some.front, c.in-Some.behind)) c.in-Some.ensures.cases)
    ∙ ap Some (sym c.in_ok-joined-in-Some.ensures.ok.1)

pub returns-in_err-all_replaced-in-Some-clause-err : goal.returns-in_err-all_replaced-in-Some-clause-err
returns-in_err-all_replaced-in-Some-clause-err c =
    let p = err_from_is_err_and c.from_residual.result c.from_residual.ensures.1 in
    rw (p.1, p.2)
    (overlong-of _ _ _
    (somewhere-all c.args.every c.args.old.now c.args.new.now c.args.word.now c.in-Some.front.now c.in-Some.behind.now c.if-every.true
    (some-bytes c.args.old.now (sym c.is_empty.ensures ∙ c.if-is_empty.false))
    (cut-of c.args.old.now c.args.word.now (Some (c.in-Some.front, c.in-Some.behind)) c.in-Some.ensures.cases))
    c.in_err-all_replaced-in-Some.ensures.err)

pub returns-in_err-joined-in-Some-clause-err : goal.returns-in_err-joined-in-Some-clause-err
returns-in_err-joined-in-Some-clause-err c =
    let p = err_from_is_err_and c.from_residual-in_err-joined-in-Some.result c.from_residual-in_err-joined-in-Some.ensures.1 in
    rw (p.1, p.2)
    (overlong-of _ _ _
    (somewhere-first c.args.every c.args.old.now c.args.new.now c.args.word.now c.in-Some.front.now c.in-Some.behind.now c.if-every.false
    (some-bytes c.args.old.now (sym c.is_empty.ensures ∙ c.if-is_empty.false))
    (cut-of c.args.old.now c.args.word.now (Some (c.in-Some.front, c.in-Some.behind)) c.in-Some.ensures.cases))
    c.in_err-joined-in-Some.ensures.err)
