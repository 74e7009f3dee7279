use Rattle.std.proofs.Common.{map, codes, sym, subst, Bor}
use Rattle.std.proofs.lemmas.Simd.{map-map}
use Rattle.port_deps.specs.Roots.{RootEdgeValue}
use Rattle.ports_query.specs.Edges.{edges_lent}
use Rattle.serde_json.specs.Data.{Data}
use Rattle.plain_service.specs.ListBodies.{dependent_body}
use Rattle.plain_service.specs.JsonText.{HasItems}
use Rattle.plain_service.proofs.WritingLemmas.{all_items}
use Rattle.plain_service.proofs.list_bodies.dependents.Goals as goal

abbrev row : RootEdgeValue → Data
row edge = dependent_body edge

pub returns : goal.returns
returns c =
    let edges = c.args.edges.now in
    let lent = λ (edge : Bor RootEdgeValue). row edge.now in
    let rows = map row (edges_lent edges) in
    c.end_list.ensures (codes "rdeps") rows
    (subst (HasItems c.loop-edge.out (codes "rdeps")) (sym (map-map row (λ (edge : Bor RootEdgeValue). edge.now) edges))
    (all_items lent edges c.loop-edge.edge-index c.loop-edge-test.false c.loop-edge.invariant))
