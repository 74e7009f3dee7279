-- The arrows up to here, by numbers.
use Rattle.std.proofs.Common.{map, take}
use Rattle.text_graph.specs.Arrows.{ArrowValue, arrows_seen}
use Rattle.text_graph.specs.Numbers.{texts_met, AreNumbers, MeetsMore}
use Rattle.text_graph.specs.declared.numbers.NumberedArrow.{NumberedArrow}
use Rattle.text_graph.proofs.numbers.Numbers.of_arrows.Given as goal

abbrev pub invariant-loop-arrow : goal.invariant-loop-arrow
invariant-loop-arrow l =
    let met = texts_met l.self in
    let arrows = arrows_seen (take l.arrow-index l.arrows) in
    record {
      from : AreNumbers met (map (λ (arrow : NumberedArrow). arrow.from) l.numbered.items)
          (map (λ (arrow : ArrowValue). arrow.from) arrows);
      to : AreNumbers met (map (λ (arrow : NumberedArrow). arrow.to) l.numbered.items) (map (λ (arrow : ArrowValue). arrow.to) arrows);
      more : MeetsMore l.fn.self l.self;
    }
