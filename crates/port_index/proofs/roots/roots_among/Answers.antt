use Rattle.std.proofs.Common.{◌∙◌, ap, ap₂, [], refl, string_bytes}
use Rattle.port_index.specs.Dependencies.{root_at, root_with, root_state}
use Rattle.port_index.specs.Seen.{known_row, known_in, entries_in}
use Rattle.port_index.proofs.More.{filter-next}
use Rattle.port_index.proofs.roots.roots_among.Goals as goal

pub loop-path-preserved : goal.loop-path-preserved
loop-path-preserved c =
    let entries = entries_in c.args.rows.now in
    let finder = c.loop-path.invariant.finder in
    let here = ap₂ (λ path row. root_with path (root_state (known_row row))) c.deref.ensures (c.get.ensures.row c.args.rows.now finder
    ∙ ap entries c.deref-in-loop-path.ensures) in record {
      finder = c.get.ensures.finder c.args.rows.now finder;
      found = filter-next (root_at (known_in entries)) string_bytes c.args.paths.now c.loop-path.path-index c.path-item.result
          (string_bytes c.path-item.result) [] c.loop-path.found.items
          c.add_root.new.found.items _ c.loop-path-test.true c.path-item.is refl c.loop-path.invariant.found here c.in_ok-add_root.ensures;
    }
