-- The paths that one directory more names are added.
use Rattle.std.proofs.Common.{◌∙◌, ap, ap₂, sym, ◌++◌, string_bytes}
use Rattle.port_index.specs.TreePaths.{named_at, named_in}
use Rattle.port_index.specs.Seen.{entries_in, known_in, known_row}
use Rattle.port_index.proofs.More.{flat_map-more}
use Rattle.port_index.proofs.tree_paths.named_by_all.Goals as goal

pub loop-directory-preserved : goal.loop-directory-preserved
loop-directory-preserved c =
    let rows = c.args.rows.now in
    let finder = c.loop-directory.invariant.finder in
    let here = ap₂ (λ path row. named_in path (known_row row)) c.deref.ensures (c.get.ensures.row rows finder
    ∙ ap (entries_in rows) c.deref-in-loop-directory.ensures) in record {
      finder = c.get.ensures.finder rows finder;
      found = c.in_ok-add_named.ensures ∙ ap₂ (λ before more. before ++ more) c.loop-directory.invariant.found here
          ∙ sym (flat_map-more (named_at (known_in (entries_in rows))) string_bytes c.args.directories.now c.loop-directory.directory-index
          c.directory-item.result c.loop-directory-test.true c.directory-item.is);
    }
