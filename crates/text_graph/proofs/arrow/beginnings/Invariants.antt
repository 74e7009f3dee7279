-- Where those of the arrows up to here begin that end at the goal.
use Rattle.std.proofs.Common.{◌≡◌, map, take}
use Rattle.text_parts.specs.Cuts.{now_all}
use Rattle.text_graph.specs.Arrows.{arrows_seen}
use Rattle.text_graph.specs.TextSearch as text_search
use Rattle.text_graph.proofs.arrow.beginnings.Given as goal

abbrev pub invariant-loop-arrow : goal.invariant-loop-arrow
invariant-loop-arrow l = now_all l.beginnings.items ≡ text_search.next_texts
    (map text_search.turned (arrows_seen (take l.arrow-index l.arrows))) l.goal
