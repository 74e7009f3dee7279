use Rattle.std.proofs.Common.{◌≡◌, ◌++◌, drop, map, string_bytes}
use Rattle.std.specs.List.{flat_map}
use Rattle.mk_mods.specs.Marks.{mark_source}
use Rattle.mk_mods.specs.Views.{shown_mark}
use Rattle.mk_mods.proofs.suffix_modifier.written.Given as goal

abbrev pub invariant-loop-mark : goal.invariant-loop-mark
invariant-loop-mark l =
    let marks = map shown_mark l.marks in string_bytes l.text ++ flat_map mark_source (drop l.mark-index marks) ≡ flat_map mark_source marks
