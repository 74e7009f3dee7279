use Rattle.std.proofs.Common.{◌≡◌, ◌+◌, ◌++◌, drop, sym, ap, subst, ◌∙◌, arith}
use Rattle.std.specs.Prelude.{◌↔◌}
use Rattle.std.specs.List.{flat_map}
use Rattle.std.proofs.lemmas.List.{drop_more}
use Rattle.mk_mods.specs.Actions.{symbols_of, AllPlain}
use Rattle.mk_mods.proofs.ChangeSteps.{AllPlain-more}
use Rattle.mk_mods.proofs.modifiers.are_plain.Goals as goal

pub loop-part-preserved : goal.loop-part-preserved
loop-part-preserved c =
    let all = c.args.parts.now in
    let part = c.part-item.result in
    let later = flat_map symbols_of (drop (c.loop-part.part-index + 1) all) in
    let next : flat_map symbols_of (drop c.loop-part.part-index all) ≡ symbols_of part ++ later =
    ap (flat_map symbols_of) (drop_more all c.loop-part.part-index part (omega arith))
    ∙ ap (λ x. symbols_of x ++ later) (sym c.part-item.is) in
    AllPlain-more part (flat_map symbols_of all) later c.in_default.not-Reference
    (subst (λ symbols. AllPlain (flat_map symbols_of all) ↔ AllPlain symbols) next c.loop-part.invariant)
