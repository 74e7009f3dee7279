use Rattle.std.proofs.Common.{◌≡◌, ◌+◌, ◌++◌, ◌∷◌, [], ◌≤◌, map, length, drop, get_or, Some, sym, ap, subst, ◌∙◌, arith}
use Rattle.std.proofs.lemmas.List.{map_push, length-map, length-drop}
use Rattle.mk_mods.specs.declared.marks.Mark.TheVariants.{Char}
use Rattle.mk_mods.specs.Signs.{sign_at}
use Rattle.mk_mods.specs.Views.{shown_mark, shown_sign}
use Rattle.mk_mods.proofs.ViewSteps.{map-next, map-rest}
use Rattle.mk_mods.proofs.SignSteps.{ReadAs, read-more, read-all, sign_at-width}
use Rattle.mk_mods.proofs.substitution_signs.signs_before.Goals as goal

pub returns-then-is-clause-ok : goal.returns-then-is-clause-ok
returns-then-is-clause-ok c =
    let all = map shown_mark c.args.marks.now in
    let at = c.loop-at.at in
    let mark = get_or c.args.marks.now at (Char 0) in
    read-all c.args.delimiter all (map shown_sign c.loop-at.signs.items) at (shown_mark mark) c.loop-at.invariant.read
    (map-next shown_mark c.args.marks.now at (Char 0) (omega arith)) (sym c.is.ensures ∙ c.if-is.true)
    ∙ ap (λ l. Some (map shown_sign c.loop-at.signs.items, l)) (sym (map-rest shown_mark c.args.marks.now (at + 1)))

pub loop-at-preserved : goal.loop-at-preserved
loop-at-preserved c =
    let all = map shown_mark c.args.marks.now in
    let at = c.loop-at.at in
    let mark = get_or c.args.marks.now at (Char 0) in
    let sign = c.sign_at-width.result.0 in
    let width = c.sign_at-width.result.1 in
    let is : (shown_sign sign, width) ≡ sign_at c.args.delimiter (shown_mark mark) (drop (at + 1) all) =
    c.sign_at-width.ensures ∙ ap (sign_at c.args.delimiter (shown_mark mark)) (map-rest shown_mark c.args.marks.now (at + 1)) in
    let pushed : map shown_sign c.push.new.self.items ≡ map shown_sign c.loop-at.signs.items ++ shown_sign sign ∷ [] =
    ap (map shown_sign) c.in_ok-push.ensures.items ∙ map_push shown_sign c.loop-at.signs.items sign in
    let wide : width ≤ length (drop (at + 1) all) + 1 = subst (λ s. s.1 ≤ length (drop (at + 1) all) + 1) (sym is)
    (sign_at-width c.args.delimiter (shown_mark mark) (drop (at + 1) all)).1 in
    record {
      within = omega (arith, wide, length-drop (at + 1) all, length-map c.args.marks.now shown_mark);
      read = subst (λ front. ReadAs c.args.delimiter all front (at + width)) (sym pushed)
          (read-more c.args.delimiter all (map shown_sign c.loop-at.signs.items) at (shown_mark mark) (shown_sign sign) width
          c.loop-at.invariant.read
          (map-next shown_mark c.args.marks.now at (Char 0) (omega arith)) (sym c.is.ensures ∙ c.if-is.false) is);
    }
