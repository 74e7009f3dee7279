use Rattle.std.proofs.Common.{drop}
use Rattle.std.specs.Prelude.{◌↔◌}
use Rattle.std.specs.List.{flat_map}
use Rattle.mk_mods.specs.Actions.{symbols_of, AllPlain}
use Rattle.mk_mods.proofs.modifiers.are_plain.Given as goal

abbrev pub invariant-loop-part : goal.invariant-loop-part
invariant-loop-part l = AllPlain (flat_map symbols_of l.parts) ↔ AllPlain (flat_map symbols_of (drop l.part-index l.parts))
