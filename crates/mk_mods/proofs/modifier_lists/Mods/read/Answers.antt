use Rattle.std.proofs.Common.{Some, map, sym, ap, ◌∙◌}
use Rattle.std.specs.Option.{option_and_then}
use Rattle.std.proofs.lemmas.Result.{err_from_is_err_and}
use Rattle.mk_mods.specs.Grammar.{modifiers_in, modifiers_of}
use Rattle.mk_mods.specs.Views.{shown_mark}
use Rattle.mk_mods.proofs.ModifierSteps.{modifiers-unmarked, modifiers-unread}
use Rattle.mk_mods.proofs.modifier_lists.Mods.read.Goals as goal

pub returns-clause-ok : goal.returns-clause-ok
unfolding modifiers_of
returns-clause-ok c =
    ap (option_and_then (modifiers_in c.args.profile)) c.in_ok-marks.ensures.ok
    ∙ ap (λ marks. modifiers_in c.args.profile (map shown_mark marks)) (sym c.deref.ensures.value) ∙ c.in_ok-modifiers.ensures.ok

pub returns-in_err-marks-clause-err : goal.returns-in_err-marks-clause-err
returns-in_err-marks-clause-err c =
    let p = err_from_is_err_and c.from_residual.result c.from_residual.ensures.1 in
    rw (p.1, p.2) (modifiers-unmarked c.args.profile c.args.text.now _ c.in_err-marks.ensures.err)

pub returns-in_err-modifiers-clause-err : goal.returns-in_err-modifiers-clause-err
returns-in_err-modifiers-clause-err c =
    let p = err_from_is_err_and c.from_residual-in_err-modifiers.result c.from_residual-in_err-modifiers.ensures.1 in
    rw (p.1, p.2)
    (modifiers-unread c.args.profile c.args.text.now (map shown_mark c.deref.result.now) _
    (c.in_ok-marks.ensures.ok ∙ ap (λ marks. Some (map shown_mark marks)) (sym c.deref.ensures.value)) c.in_err-modifiers.ensures.err)
