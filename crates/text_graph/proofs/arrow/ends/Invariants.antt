-- The ends of the arrows up to here.
use Rattle.std.proofs.Common.{◌≡◌, map, take}
use Rattle.text_parts.specs.Cuts.{now_all}
use Rattle.text_graph.specs.Arrows.{ArrowValue, arrows_seen}
use Rattle.text_graph.proofs.arrow.ends.Given as goal

abbrev pub invariant-loop-arrow : goal.invariant-loop-arrow
invariant-loop-arrow l = now_all l.ends.items ≡ map (λ (arrow : ArrowValue). arrow.to) (arrows_seen (take l.arrow-index l.arrows))
