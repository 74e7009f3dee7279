-- The arrows of the steps up to here.
use Rattle.std.proofs.Common.{◌≡◌, map, take}
use Rattle.text_graph.specs.Arrows.{arrows_seen}
use Rattle.ports_query.specs.Reach.{step_seen}
use Rattle.ports_query.proofs.reach.arrows_over.Given as goal

abbrev pub invariant-loop-step : goal.invariant-loop-step
invariant-loop-step l = arrows_seen l.arrows.items ≡ map step_seen (take l.step-index l.steps)
