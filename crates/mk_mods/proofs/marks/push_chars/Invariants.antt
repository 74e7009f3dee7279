use Rattle.std.proofs.Common.{◌≡◌, ◌++◌, map}
use Rattle.mk_mods.specs.Marks.{Char}
use Rattle.mk_mods.specs.Views.{shown_mark}
use Rattle.mk_mods.proofs.marks.push_chars.Given as goal

abbrev pub invariant-loop-character : goal.invariant-loop-character
invariant-loop-character l = map shown_mark l.marks.items ≡ map shown_mark l.fn.marks.items ++ map Char l.yielded
