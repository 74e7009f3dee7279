use Rattle.std.proofs.Common.{◌+◌, ◌++◌, map, drop, string_bytes, sym, ap, ◌∙◌, arith, append_assoc, append-nil}
use Rattle.std.specs.List.{flat_map}
use Rattle.mk_mods.specs.Marks.{mark_source}
use Rattle.mk_mods.specs.Views.{shown_mark}
use Rattle.mk_mods.proofs.ViewSteps.{map-next, map-end}
use Rattle.mk_mods.proofs.suffix_modifier.written.Goals as goal

pub loop-mark-preserved : goal.loop-mark-preserved
loop-mark-preserved c =
    let marks = map shown_mark c.args.marks.now in
    let later = flat_map mark_source (drop (c.loop-mark.mark-index + 1) marks) in
    let text = string_bytes c.loop-mark.text in
    ap (λ l. l ++ later) c.in_ok-write_to.ensures ∙ append_assoc text _ later
    ∙ ap (λ l. text ++ l) (sym (ap (flat_map mark_source) (map-next shown_mark c.args.marks.now c.loop-mark.mark-index _ (omega arith))))
    ∙ c.loop-mark.invariant

pub returns : goal.returns
returns c =
    let marks = map shown_mark c.args.marks.now in
    let text = string_bytes c.loop-mark.text in
    sym (append-nil text) ∙ ap (λ l. text ++ flat_map mark_source l)
    (sym (map-end shown_mark c.args.marks.now c.loop-mark.mark-index (omega arith))) ∙ c.loop-mark.invariant
