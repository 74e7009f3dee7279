use Rattle.std.proofs.Common.{◌≡◌, ◌+◌, map, drop, sym, ap, ◌∙◌, arith}
use Rattle.std.proofs.lemmas.List.{drop_more, drop_all}
use Rattle.mk_env.specs.Texts.{without_text}
use Rattle.mk_text.specs.Words.{words_of, span_text}
use Rattle.mk_eval.specs.Lines.{without_variables}
use Rattle.mk_eval.proofs.lines.undef_words.Goals as goal

pub loop-span-preserved : goal.loop-span-preserved
loop-span-preserved c =
    let place = span_text c.args.text.now in
    let spans = c.deref-span-items.result.now in
    let later = map place (drop (c.loop-span.span-index + 1) spans) in
    c.loop-span.invariant
    ∙ ap (λ rest. without_variables c.loop-span.env (map place rest))
    (drop_more spans c.loop-span.span-index record { start = 0; end = 0 } (omega arith))
    ∙ ap (λ variables. without_variables variables later) (ap (without_text c.loop-span.env) (sym c.of.ensures) ∙ sym c.undef.ensures)

pub returns-clause-ok : goal.returns-clause-ok
returns-clause-ok c =
    let place = span_text c.args.text.now in
    let spans = c.deref-span-items.result.now in
    let texts : map place spans ≡ words_of c.args.text.now = ap (map place) c.deref-span-items.ensures.value
    ∙ c.in_ok-words.ensures.texts in
    ap (λ rest. without_variables c.loop-span.env (map place rest)) (sym (drop_all c.loop-span.span-index spans (omega arith)))
    ∙ sym c.loop-span.invariant
    ∙ ap (without_variables c.args.env.now) texts
