-- The step of one dependency more.
use Rattle.std.proofs.Common.{◌∙◌, ◌++◌, ◌+◌, ◌<◌, sym, ap, map, length, arith, Bor}
use Rattle.std.proofs.lemmas.List.{length-map, get_or-map, take-map}
use Rattle.std.specs.List.{filter_map}
use Rattle.std.specs.Option.{option_to_list}
use Rattle.general_facts.specs.Lists.{filter_map-more}
use Rattle.port_deps.specs.Roots.{RootEdgeValue}
use Rattle.ports_query.specs.Edges.{edges_lent}
use Rattle.ports_query.specs.Reach.{arrow_of, step_seen}
use Rattle.ports_query.proofs.reach.steps_over_some.Goals as goal

abbrev now : Bor RootEdgeValue → RootEdgeValue
now edge = edge.now

pub loop-edge-preserved : goal.loop-edge-preserved
loop-edge-preserved c =
    let edges = c.args.edges.now in
    let at = c.loop-edge.edge-index in
    let edge = c.edge-item.result in
    let before = map step_seen c.loop-edge.steps.items in
    let arrow = arrow_of c.args.kinds in
    let inside : at < length edges = c.loop-edge-test.true in
    filter_map-more arrow (edges_lent edges) at edge.now before (map step_seen c.add_step.new.steps.items)
    (omega (arith, inside, length-map edges now))
    (c.loop-edge.invariant ∙ ap (filter_map arrow) (sym (take-map now at edges)))
    (c.in_ok-add_step.ensures
    ∙ ap (λ given. before ++ option_to_list given) (c.in_ok-over.ensures
    ∙ ap arrow (ap now c.edge-item.is ∙ sym (get_or-map now edges at edge edge.now inside))))
    ∙ ap (filter_map arrow) (take-map now (at + 1) edges)
