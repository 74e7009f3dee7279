-- The numbers of the texts up to here.
use Rattle.std.proofs.Common.{take}
use Rattle.text_parts.specs.Cuts.{now_all}
use Rattle.text_graph.specs.Numbers.{texts_met, AreNumbers, MeetsMore}
use Rattle.text_graph.proofs.numbers.Numbers.of_texts.Given as goal

abbrev pub invariant-loop-text : goal.invariant-loop-text
invariant-loop-text l = record {
  numbers : AreNumbers (texts_met l.self) l.numbers.items (now_all (take l.text-index l.texts));
  more : MeetsMore l.fn.self l.self;
}
