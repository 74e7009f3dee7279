use Rattle.std.proofs.Common.{◌≡◌, ◌++◌, drop, map, string_bytes}
use Rattle.std.specs.List.{flat_map}
use Rattle.mk_mods.specs.Actions.{Byte, symbols_of}
use Rattle.mk_mods.specs.Signs.{sign_symbols}
use Rattle.mk_mods.specs.Views.{shown_sign}
use Rattle.mk_mods.proofs.substitution_signs.parts_of.Given as goal

abbrev pub invariant-loop-sign : goal.invariant-loop-sign
invariant-loop-sign l =
    let signs = map shown_sign l.signs in
    (flat_map symbols_of l.parts.items ++ map Byte (string_bytes l.text)) ++ flat_map (sign_symbols l.in_new) (drop l.sign-index signs) ≡
    flat_map (sign_symbols l.in_new) signs
