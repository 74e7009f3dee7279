use Rattle.std.proofs.Common.{◌+◌, [], map, drop, take, get_or, sym, ap, ◌∙◌, arith}
use Rattle.std.proofs.lemmas.List.{take_more, take_all, map_push}
use Rattle.mk_mods.specs.declared.marks.Mark.TheVariants.{Char}
use Rattle.mk_mods.specs.Grammar.{cut_before}
use Rattle.mk_mods.specs.Views.{shown_mark}
use Rattle.mk_mods.proofs.ViewSteps.{map-next, map-rest, map-end}
use Rattle.mk_mods.proofs.SuffixSteps.{cut-more, cut-here, cut-end}
use Rattle.mk_mods.proofs.suffix_modifier.cut_before.Goals as goal

pub loop-at-preserved : goal.loop-at-preserved
loop-at-preserved c =
    let marks = c.args.marks.now in
    let all = map shown_mark marks in
    let at = c.loop-at.at in
    let mark = get_or marks at (Char 0) in
    cut-more c.args.character (cut_before c.args.character all) (map shown_mark (take at marks)) (map shown_mark (take (at + 1) marks))
    (shown_mark mark) (drop at all) (drop (at + 1) all)
    c.loop-at.invariant (map-next shown_mark marks at (Char 0) (omega arith)) (sym c.is.ensures ∙ c.if-is.false)
    (ap (map shown_mark) (take_more marks at (Char 0) (omega arith)) ∙ map_push shown_mark (take at marks) mark)

pub returns-then-is-clause-cut : goal.returns-then-is-clause-cut
returns-then-is-clause-cut c =
    let marks = c.args.marks.now in
    let all = map shown_mark marks in
    let at = c.loop-at.at in
    let mark = get_or marks at (Char 0) in
    cut-here c.args.character (cut_before c.args.character all) (map shown_mark (take at marks)) (shown_mark mark)
    (drop at all) (drop (at + 1) all)
    c.loop-at.invariant (map-next shown_mark marks at (Char 0) (omega arith)) (sym c.is.ensures ∙ c.if-is.true)
    ∙ ap (λ l. (map shown_mark (take at marks), l)) (sym (map-rest shown_mark marks at))

pub returns-clause-cut : goal.returns-clause-cut
returns-clause-cut c =
    let marks = c.args.marks.now in
    let all = map shown_mark marks in
    let at = c.loop-at.at in
    cut-end c.args.character (cut_before c.args.character all) (map shown_mark (take at marks)) (drop at all) c.loop-at.invariant
    (map-end shown_mark marks at (omega arith))
    ∙ ap (λ l. (map shown_mark l, [])) (take_all at marks (omega arith))
