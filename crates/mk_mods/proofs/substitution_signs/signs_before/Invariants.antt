use Rattle.std.proofs.Common.{◌≤◌, ◌-◌, length, map}
use Rattle.mk_mods.specs.Views.{shown_mark, shown_sign}
use Rattle.mk_mods.proofs.SignSteps.{ReadAs}
use Rattle.mk_mods.proofs.substitution_signs.signs_before.Given as goal

abbrev pub invariant-loop-at : goal.invariant-loop-at
invariant-loop-at l = record {
  within : l.at ≤ length l.marks;
  read : ReadAs l.delimiter (map shown_mark l.marks) (map shown_sign l.signs.items) l.at;
}

abbrev pub decreases-loop-at : goal.decreases-loop-at
decreases-loop-at l = length l.marks - l.at
