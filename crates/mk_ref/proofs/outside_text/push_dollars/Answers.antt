use Rattle.std.proofs.Common.{◌++◌, ◌∷◌, [], take, ap, sym, ◌∙◌, append_assoc}
use Rattle.std.proofs.lemmas.List.{map-append, take_more}
use Rattle.mk_ref.specs.Outside.{dollars}
use Rattle.mk_ref.proofs.outside_text.push_dollars.Goals as goal

pub loop-preserved : goal.loop-preserved
loop-preserved c =
    let items = c.as_bytes-items.result.now in
    let at = c.loop.index in
    c.in_ok-push.ensures.items ∙ ap (λ l. l ++ 36 ∷ []) c.loop.invariant ∙ append_assoc c.args.bytes.now.items
    (dollars (take at items)) (36 ∷ [])
    ∙ ap (λ l. c.args.bytes.now.items ++ l) (sym (map-append (λ b. 36) (take at items) (_ ∷ [])))
    ∙ ap (λ l. c.args.bytes.now.items ++ dollars l) (sym (take_more items at 0 c.loop-test.true))
