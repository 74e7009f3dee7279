use Rattle.std.proofs.Common.{◌≡◌, false, drop, map, string_bytes}
use Rattle.mk_mods.specs.Grammar.{pattern_from}
use Rattle.mk_mods.specs.Views.{shown_mark}
use Rattle.mk_mods.proofs.ReadSteps.{pattern_after}
use Rattle.mk_mods.proofs.modifier_lists.pattern_from.Given as goal

abbrev pub invariant-loop-at : goal.invariant-loop-at
invariant-loop-at l =
    let marks = map shown_mark l.marks in pattern_from false marks ≡ pattern_after (string_bytes l.pattern)
    (pattern_from l.escaped (drop l.at marks))
