use Rattle.std.proofs.Common.{◌≡◌, ◌<◌, ◌++◌, ◌∷◌, [], map, length, sym, ap, subst, ◌∙◌, arith}
use Rattle.std.proofs.lemmas.List.{map_push, length-map}
use Rattle.mk_mods.specs.Actions.{action_of}
use Rattle.mk_mods.specs.Views.{shown_mark}
use Rattle.mk_mods.proofs.ModifierSteps.{ReadsOn, reads-first, reads-more}
use Rattle.mk_mods.proofs.modifier_lists.modifiers_in.Goals as goal

pub loop-mark-init : goal.loop-mark-init
loop-mark-init c =
    let all = map shown_mark c.args.marks.now in
    let behind = map shown_mark c.in_ok-first.behind.now in
    let pushed : map action_of c.push.new.self.items ≡ action_of c.in_ok-first.first ∷ [] =
    ap (map action_of) (c.in_ok-push.ensures.items ∙ ap (λ l. l ++ c.in_ok-first.first ∷ []) c.new-modifiers.ensures.items) in
    let shorter : length behind < length all =
    omega (arith, c.in_ok-first.ensures.shorter, length-map c.in_ok-first.behind.now shown_mark, length-map c.args.marks.now shown_mark) in
    subst (λ done. ReadsOn c.args.profile all done behind) (sym pushed)
    (reads-first c.args.profile all behind (action_of c.in_ok-first.first) c.in_ok-first.ensures.ok shorter)

pub loop-mark-preserved : goal.loop-mark-preserved
loop-mark-preserved c =
    let all = map shown_mark c.args.marks.now in
    let behind = map shown_mark c.loop-mark.behind.now in
    let later = map shown_mark c.in-Some.later.now in
    let rest = map shown_mark c.in_ok-modifier.rest.now in
    let done = map action_of c.loop-mark.modifiers.items in
    let pushed : map action_of c.push-in-Some.new.self.items ≡ done ++ action_of c.in_ok-modifier.modifier ∷ [] =
    ap (map action_of) c.in_ok-push-2.ensures.items ∙ map_push action_of c.loop-mark.modifiers.items c.in_ok-modifier.modifier in
    let shorter : length rest < length later =
    omega (
      arith,
      c.in_ok-modifier.ensures.shorter,
      length-map c.in_ok-modifier.rest.now shown_mark,
      length-map
          c.in-Some.later.now shown_mark,
    ) in
    subst (λ done. ReadsOn c.args.profile all done rest) (sym pushed)
    (reads-more c.args.profile all done behind (action_of c.in_ok-modifier.modifier) (shown_mark c.in-Some.mark.now) later
    rest c.loop-mark.invariant
    (ap (map shown_mark) c.in-Some.ensures.cases.0) (sym c.is.ensures ∙ c.if-not-is.false) c.in_ok-modifier.ensures.ok shorter)
