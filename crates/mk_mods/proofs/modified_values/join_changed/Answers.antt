use Rattle.std.proofs.Common.{◌≡◌, map, string_bytes, sym, ap, subst, ◌∙◌, arith}
use Rattle.std.proofs.lemmas.Result.{err_from_is_err_and}
use Rattle.mk_text.specs.Words.{words_of, span_text}
use Rattle.mk_text.specs.declared.limits.TheConstants.{TEXT_LIMIT}
use Rattle.mk_mods.specs.Joined.{joined, with_word}
use Rattle.mk_mods.specs.Views.{changed_word}
use Rattle.mk_mods.proofs.JoinSteps.{Joining, joining-none, joining-more, joining-over, next-word, too_long-over}
use Rattle.mk_mods.proofs.modified_values.join_changed.Goals as goal

pub loop-span-init : goal.loop-span-init
loop-span-init c =
    let change = map (changed_word c.args.change) in
    subst (λ made. Joining TEXT_LIMIT (joined (change (words_of c.args.value.now))) made (change (words_of c.args.value.now)))
    (sym c.new-made.ensures.bytes)
    (joining-none TEXT_LIMIT (change (words_of c.args.value.now)))

pub loop-span-preserved : goal.loop-span-preserved
loop-span-preserved c =
    let value = c.args.value.now in
    let change = changed_word c.args.change in
    let spans = c.deref-span-items.result.now in
    let texts : map (span_text value) spans ≡ words_of value = ap (map (span_text value)) c.deref-span-items.ensures.value
    ∙ c.in_ok-words.ensures.texts in
    let next = next-word value spans (words_of value) c.loop-span.span-index record { start = 0; end = 0 } texts (omega arith) in
    joining-more _ _ _ _ _ _ _ c.loop-span.invariant (ap (map change) next) c.in_ok-add_changed.ensures.ok.0
    (c.in_ok-add_changed.ensures.ok.1 ∙ ap (λ w. with_word (string_bytes c.loop-span.made) (change w)) c.of.ensures)

pub returns-in_err-add_changed-clause-err : goal.returns-in_err-add_changed-clause-err
returns-in_err-add_changed-clause-err c =
    let value = c.args.value.now in
    let change = changed_word c.args.change in
    let spans = c.deref-span-items.result.now in
    let texts : map (span_text value) spans ≡ words_of value = ap (map (span_text value)) c.deref-span-items.ensures.value
    ∙ c.in_ok-words.ensures.texts in
    let next = next-word value spans (words_of value) c.loop-span.span-index record { start = 0; end = 0 } texts (omega arith) in
    let p = err_from_is_err_and c.from_residual-in_err-add_changed.result c.from_residual-in_err-add_changed.ensures.1 in
    rw (p.1, p.2)
    (too_long-over _ _ _ (joining-over _ _ _ _ _ _ c.loop-span.invariant (ap (map change) next))
    (rw c.of.ensures at c.in_err-add_changed.ensures.err))
