-- The texts of the numbers up to here.
use Rattle.std.proofs.Common.{◌≡◌, map, take}
use Rattle.text_parts.specs.Cuts.{now_all}
use Rattle.text_graph.specs.Numbers.{text_at, texts_met}
use Rattle.text_graph.proofs.numbers.Numbers.texts_of.Given as goal

abbrev pub invariant-loop-number : goal.invariant-loop-number
invariant-loop-number l = now_all l.texts.items ≡ map (text_at (texts_met l.self)) (take l.number-index l.numbers)
