use Rattle.std.proofs.Common.{length, map}
use Rattle.mk_mods.specs.Actions.{action_of}
use Rattle.mk_mods.specs.Views.{shown_mark}
use Rattle.mk_mods.proofs.ModifierSteps.{ReadsOn}
use Rattle.mk_mods.proofs.modifier_lists.modifiers_in.Given as goal

abbrev pub invariant-loop-mark : goal.invariant-loop-mark
invariant-loop-mark l = ReadsOn l.profile (map shown_mark l.marks) (map action_of l.modifiers.items) (map shown_mark l.behind)

abbrev pub decreases-loop-mark : goal.decreases-loop-mark
decreases-loop-mark l = length l.behind
