use Rattle.std.proofs.Common.{◌++◌, ◌∙◌, Some, None, sym, ap, append-nil}
use Rattle.std.proofs.lemmas.Result.{err_from_is_err_and}
use Rattle.mk_mods.specs.Actions.{replacement_of}
use Rattle.mk_mods.proofs.JoinSteps.{overlong-of}
use Rattle.mk_mods.proofs.Replacing.{replaced-starts, replaced-ends}
use Rattle.mk_mods.proofs.substitution.replaced.Goals as goal

pub returns-in_ok-joined-in-Some-clause-ok : goal.returns-in_ok-joined-in-Some-clause-ok
returns-in_ok-joined-in-Some-clause-ok c =
    replaced-starts (replacement_of c.args.substitution.now) c.args.old.now c.args.new.now c.args.word.now (Some c.in-Some.behind)
    c.in-true-false.is-0 c.in-true-false.is-1 c.in-Some.ensures.cases
    ∙ ap Some (sym c.in_ok-joined-in-Some.ensures.ok.1)

pub returns-in-None-clause-ok : goal.returns-in-None-clause-ok
returns-in-None-clause-ok c =
    replaced-starts (replacement_of c.args.substitution.now) c.args.old.now c.args.new.now c.args.word.now None c.in-true-false.is-0
    c.in-true-false.is-1 c.in-None.ensures.cases

pub returns-in_err-joined-in-Some-clause-err : goal.returns-in_err-joined-in-Some-clause-err
returns-in_err-joined-in-Some-clause-err c =
    let p = err_from_is_err_and c.from_residual-in_err-joined-in-Some.result c.from_residual-in_err-joined-in-Some.ensures.1 in
    rw (p.1, p.2)
    (overlong-of _ _ _
    (replaced-starts (replacement_of c.args.substitution.now) c.args.old.now c.args.new.now c.args.word.now (Some c.in-Some.behind)
    c.in-true-false.is-0 c.in-true-false.is-1 c.in-Some.ensures.cases)
    c.in_err-joined-in-Some.ensures.err)

pub returns-in_ok-joined-in-Some-strip_suffix-clause-ok : goal.returns-in_ok-joined-in-Some-strip_suffix-clause-ok
returns-in_ok-joined-in-Some-strip_suffix-clause-ok c =
    replaced-ends (replacement_of c.args.substitution.now) c.args.old.now c.args.new.now c.args.word.now (Some c.in-Some-strip_suffix.front)
    c.in-false-true.is-0 c.in-false-true.is-1
    c.in-Some-strip_suffix.ensures.cases
    ∙ ap (λ l. Some (c.in-Some-strip_suffix.front.now ++ l)) (sym (append-nil c.args.new.now))
    ∙ ap Some (sym c.in_ok-joined-in-Some-strip_suffix.ensures.ok.1)

pub returns-in-None-strip_suffix-clause-ok : goal.returns-in-None-strip_suffix-clause-ok
returns-in-None-strip_suffix-clause-ok c =
    replaced-ends (replacement_of c.args.substitution.now) c.args.old.now c.args.new.now c.args.word.now None c.in-false-true.is-0
    c.in-false-true.is-1 c.in-None-strip_suffix.ensures.cases

pub returns-in_err-joined-in-Some-strip_suffix-clause-err : goal.returns-in_err-joined-in-Some-strip_suffix-clause-err
returns-in_err-joined-in-Some-strip_suffix-clause-err c =
    let p = err_from_is_err_and c.from_residual-in_err-joined-in-Some-strip_suffix.result
    c.from_residual-in_err-joined-in-Some-strip_suffix.ensures.1 in
    rw (p.1, p.2)
    (overlong-of _ _ _
    (replaced-ends (replacement_of c.args.substitution.now) c.args.old.now c.args.new.now c.args.word.now
    (Some c.in-Some-strip_suffix.front) c.in-false-true.is-0 c.in-false-true.is-1
    c.in-Some-strip_suffix.ensures.cases
    ∙ ap (λ l. Some (c.in-Some-strip_suffix.front.now ++ l)) (sym (append-nil c.args.new.now)))
    c.in_err-joined-in-Some-strip_suffix.ensures.err)
