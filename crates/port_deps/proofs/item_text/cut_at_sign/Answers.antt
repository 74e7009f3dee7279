use Rattle.std.proofs.Common.{rules, sym, ◌∙◌, IsCharBoundary}
use Rattle.port_deps.proofs.Signs.{sign-cuts}
use Rattle.port_deps.proofs.item_text.cut_at_sign.Goals as goal

pub range-requires : goal.range-requires
range-requires c =
    let cuts : IsCharBoundary c.args.text.now c.in-Some.at = sign-cuts c.args.text.now c.in-Some.at
    (sym c.in-Some.is ∙ c.sign_in.ensures) in
    search rules

pub range_from-requires : goal.range_from-requires
range_from-requires c =
    let cuts : IsCharBoundary c.args.text.now c.in-Some.at = sign-cuts c.args.text.now c.in-Some.at
    (sym c.in-Some.is ∙ c.sign_in.ensures) in
    search rules
