-- It follows from the rows of the paths on which the index depends.
use Rattle.std.proofs.Common.{◌∙◌, ap, sym, ◌++◌, filter, map, string_bytes}
use Rattle.std.proofs.lemmas.Result.{IfOk-weaker}
use Rattle.std.specs.List.{flat_map}
use Rattle.std.specs.Str.{bytes_eq}
use Rattle.text_parts.specs.Order.{in_order}
use Rattle.text_parts.specs.Ordered.{in_order-again}
use Rattle.mk_paths.specs.World.{files_in}
use Rattle.port_deps.specs.Roots.{RootEdgeValue}
use Rattle.port_index.specs.Dependencies.{edges_among}
use Rattle.port_index.specs.TreePaths.{AreInOrder, directories, named_at}
use Rattle.port_index.specs.PathOutcomes.{outcome_at}
use Rattle.port_index.specs.Seen.{entries_in, known_in}
use Rattle.port_index.proofs.known_index.KnownIndex.edges_from.Goals as goal

pub returns : goal.returns
returns c = λ world is.
    let entries = entries_in c.args.self.now.rows in
    let paths = map string_bytes c.deref.result.now in
    let listed = ap (map string_bytes) c.deref.ensures.value ∙ is.paths.listed in
    let ordered : AreInOrder paths = ap in_order listed
    ∙ in_order-again (flat_map (named_at (outcome_at world)) (directories (files_in world)) ++ directories (files_in world))
    ∙ sym listed in
    let same = ap (edges_among (known_in entries)) listed ∙ c.known_rows_are_enough.ensures.edges world entries is.rows in
    IfOk-weaker c.edges_from.result _ _ (λ found are. are ∙ ap (filter (λ (edge : RootEdgeValue). bytes_eq edge.root c.args.path.now)) same)
    (c.edges_from.ensures ordered)
