use Rattle.std.proofs.Common.{◌+◌, ◌++◌, map, drop, string_bytes, sym, ap, ◌∙◌, arith, append_assoc}
use Rattle.std.specs.List.{flat_map}
use Rattle.mk_mods.specs.Actions.{Byte, symbols_of}
use Rattle.mk_mods.specs.Signs.{sign_symbols}
use Rattle.mk_mods.specs.Views.{shown_sign}
use Rattle.mk_mods.proofs.ViewSteps.{map-next}
use Rattle.mk_mods.proofs.substitution_signs.parts_of.Goals as goal

pub loop-sign-preserved : goal.loop-sign-preserved
loop-sign-preserved c =
    let signs = map shown_sign c.args.signs.now in
    let later = flat_map (sign_symbols c.args.in_new) (drop (c.loop-sign.sign-index + 1) signs) in
    let made = flat_map symbols_of c.loop-sign.parts.items ++ map Byte (string_bytes c.loop-sign.text) in
    ap (λ l. l ++ later) c.in_ok-text.ensures ∙ append_assoc made _ later
    ∙ ap (λ l. made ++ l)
    (sym (ap (flat_map (sign_symbols c.args.in_new)) (map-next shown_sign c.args.signs.now c.loop-sign.sign-index _ (omega arith))))
    ∙ c.loop-sign.invariant
