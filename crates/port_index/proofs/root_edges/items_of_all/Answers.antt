-- The items of one port more are added.
use Rattle.std.proofs.Common.{◌∙◌, ap, ap₂, sym, ◌++◌, string_bytes}
use Rattle.port_index.specs.Dependencies.{items_at, items_in}
use Rattle.port_index.specs.Seen.{entries_in, known_in, known_row}
use Rattle.port_index.proofs.More.{flat_map-more}
use Rattle.port_index.proofs.root_edges.items_of_all.Goals as goal

pub loop-path-preserved : goal.loop-path-preserved
loop-path-preserved c =
    let rows = c.args.rows.now in
    let finder = c.loop-path.invariant.finder in
    let here = ap₂ (λ path row. items_in path (known_row row)) c.deref.ensures (c.get.ensures.row rows finder
    ∙ ap (entries_in rows) c.deref-in-loop-path.ensures) in record {
      finder = c.get.ensures.finder rows finder;
      found = c.in_ok-add_items.ensures ∙ ap₂ (λ before more. before ++ more) c.loop-path.invariant.found here
          ∙ sym (flat_map-more (items_at (known_in (entries_in rows))) string_bytes c.args.paths.now c.loop-path.path-index
          c.path-item.result c.loop-path-test.true c.path-item.is);
    }
