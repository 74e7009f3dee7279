-- The step of one dependency more.
use Rattle.std.proofs.Common.{◌∙◌, ◌++◌, ap, map}
use Rattle.std.specs.Option.{option_to_list}
use Rattle.general_facts.specs.Lists.{filter_map-more}
use Rattle.ports_query.specs.Reach.{arrow_of, step_seen}
use Rattle.ports_query.proofs.reach.steps_over.Goals as goal

pub loop-edge-preserved : goal.loop-edge-preserved
loop-edge-preserved c =
    let edges = c.args.edges.now in
    let at = c.loop-edge.edge-index in
    let edge = c.edge-item.result in
    let before = map step_seen c.loop-edge.steps.items in
    filter_map-more (arrow_of c.args.kinds) edges at edge before (map step_seen c.add_step.new.steps.items)
    c.loop-edge-test.true c.loop-edge.invariant
    (c.in_ok-add_step.ensures ∙ ap (λ given. before ++ option_to_list given) (c.in_ok-over.ensures
    ∙ ap (arrow_of c.args.kinds) c.edge-item.is))
