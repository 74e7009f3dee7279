-- Where the arrows from all texts before this place lead was added; each place is one of a start or of the end of an arrow.
use Rattle.std.proofs.Common.{◌+◌, ◌-◌, length}
use Rattle.text_parts.specs.Cuts.{now_all}
use Rattle.text_graph.specs.Arrows.{arrows_seen}
use Rattle.text_graph.specs.Numbers.{texts_met}
use Rattle.text_graph.proofs.NumberSearches.{KeepsSearching}
use Rattle.text_graph.proofs.text_search.search.Given as goal

abbrev pub invariant-loop-place : goal.invariant-loop-place
invariant-loop-place l = KeepsSearching (now_all l.starts) (arrows_seen l.arrows) (texts_met l.numbers) l.place l.found

abbrev pub decreases-loop-place : goal.decreases-loop-place
decreases-loop-place l = length l.starts + length l.arrows - l.place
