use Rattle.std.proofs.Common.{◌≡◌, drop, map}
use Rattle.mk_mods.specs.Grammar.{flags_of}
use Rattle.mk_mods.specs.Views.{shown_mark}
use Rattle.mk_mods.proofs.ReadSteps.{flags_after}
use Rattle.mk_mods.proofs.modifier_lists.flags_of.Given as goal

abbrev pub invariant-loop-at : goal.invariant-loop-at
invariant-loop-at l = let marks = map shown_mark l.marks in flags_of marks ≡ flags_after l.every l.once (flags_of (drop l.at marks))
