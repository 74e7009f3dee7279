-- The dependencies are those of the path's row, if it is one of the paths.
use Rattle.std.proofs.Common.{◌≡◌, ◌∙◌, ◌++◌, [], ap, ap₂, sym, if◌then◌else◌, Bool, map, string_bytes}
use Rattle.std.proofs.lemmas.Result.{IfOk-weaker}
use Rattle.port_index.specs.Dependencies.{edge_at, items_at, items_in}
use Rattle.port_index.specs.Seen.{entries_in, item_seen, known_in, known_row}
use Rattle.port_index.proofs.OnePath.{edges-one}
use Rattle.port_index.proofs.root_edges.edges_from.Goals as goal

pub returns-then-not-is_found_in : goal.returns-then-not-is_found_in
returns-then-not-is_found_in c = λ ordered.
    let outcomes = known_in (entries_in c.args.rows.now) in
    let path = c.args.path.now in
    c.new.ensures.items
    ∙ sym (edges-one outcomes path (map string_bytes c.args.paths.now) ordered
    ∙ ap (λ (b : Bool). if b then map (edge_at outcomes) (items_at outcomes path) else []) (sym (c.is_found_in.ensures.all ordered)
    ∙ c.if-not-is_found_in.true))

pub returns : goal.returns
returns c = λ ordered.
    let outcomes = known_in (entries_in c.args.rows.now) in
    let path = c.args.path.now in
    let items : map item_seen c.add_items.new.found.items ≡ items_at outcomes path =
    c.in_ok-add_items.ensures ∙ ap₂ (λ before row. map item_seen before ++ items_in path (known_row row))
    c.new-items.ensures.items c.get.ensures in
    IfOk-weaker c.edges_of_all.result _ _ (λ found are. are ∙ ap (map (edge_at outcomes)) items
    ∙ sym (edges-one outcomes path (map string_bytes c.args.paths.now) ordered
    ∙ ap (λ (b : Bool). if b then map (edge_at outcomes) (items_at outcomes path) else []) (sym (c.is_found_in.ensures.all ordered)
    ∙ c.if-not-is_found_in.false)))
    c.edges_of_all.ensures
