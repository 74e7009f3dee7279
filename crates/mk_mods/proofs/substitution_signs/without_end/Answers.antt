use Rattle.std.proofs.Common.{false, map, sym, ap, ◌∙◌}
use Rattle.std.proofs.lemmas.List.{map_push}
use Rattle.mk_mods.specs.Signs.{without_end}
use Rattle.mk_mods.specs.Views.{shown_sign}
use Rattle.mk_mods.proofs.ViewSteps.{map-nil}
use Rattle.mk_mods.proofs.SignSteps.{without_end-anchor, without_end-plain}
use Rattle.mk_mods.proofs.substitution_signs.without_end.Goals as goal
use Rattle.mk_mods.proofs.substitution_signs.without_end.Goals.{in_default-via-in-Some+else-is_bare, in_default-via-in_default}

pub returns-in-Some : goal.returns-in-Some
returns-in-Some c =
    let whole = ap (map shown_sign) c.in-Some.ensures.cases.0 ∙ map_push shown_sign c.in-Some.others.now c.in-Some.last.now in
    sym (ap without_end whole ∙ without_end-anchor (map shown_sign c.in-Some.others.now) (shown_sign c.in-Some.last.now)
    (sym c.is_bare.ensures ∙ c.if-is_bare.true))

pub returns-in_default : goal.returns-in_default
returns-in_default c =
    elim c.in_default.branch [
      | in_default-via-in-Some+else-is_bare w ↦
          let whole = ap (map shown_sign) w.in-Some.ensures.cases.0 ∙ map_push shown_sign w.in-Some.others.now w.in-Some.last.now in
          sym (ap without_end whole ∙ without_end-plain (map shown_sign w.in-Some.others.now) (shown_sign w.in-Some.last.now)
          (sym w.is_bare.ensures ∙ w.if-is_bare.false) ∙ ap (λ l. (false, l)) (sym whole))
      | in_default-via-in_default w ↦ let none = map-nil shown_sign c.args.signs.now w.in_default.ensures.cases in ap (λ l. (false, l)) none
          ∙ sym (ap without_end none)
    ]
