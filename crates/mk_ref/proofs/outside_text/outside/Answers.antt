use Rattle.std.proofs.Common.{◌≡◌, IfOk, map, subst, ap, ◌∙◌}
use Rattle.mk_ref.specs.Places.{piece_in_text}
use Rattle.mk_ref.proofs.Covering.{outside-whole}
use Rattle.mk_ref.proofs.outside_text.outside.Goals as goal

pub returns-in-Ok : goal.returns-in-Ok
returns-in-Ok c =
    let text = c.args.text.now in
    subst (λ l. IfOk c.covered.result (λ bytes. bytes.items ≡ l))
    (outside-whole text (map (piece_in_text text) c.as_slice.result.now) (ap (map (piece_in_text text)) c.as_slice.ensures.value
    ∙ c.in-Ok.ensures.pieces) c.in-Ok.ensures.whole)
    c.covered.ensures
