-- The arrows up to here, turned.
use Rattle.std.proofs.Common.{◌≡◌, map, take}
use Rattle.text_graph.specs.Arrows.{arrows_seen}
use Rattle.text_graph.specs.TextSearch as text_search
use Rattle.text_graph.proofs.arrow.turned.Given as goal

abbrev pub invariant-loop-arrow : goal.invariant-loop-arrow
invariant-loop-arrow l = arrows_seen l.turned.items ≡ map text_search.turned (arrows_seen (take l.arrow-index l.arrows))
