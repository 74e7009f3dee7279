use Rattle.std.proofs.Common.{[], map, option_map, string_bytes}
use Rattle.port_index.specs.TreePaths.{listable_directory}
use Rattle.port_index.proofs.More.{filter-next}
use Rattle.port_index.proofs.tree_paths.directories_of.Goals as goal

pub loop-name-preserved : goal.loop-name-preserved
loop-name-preserved c =
    filter-next listable_directory string_bytes c.args.names.now c.loop-name.name-index c.name-item.result c.deref.result.now []
    (map string_bytes c.loop-name.found.items) (map string_bytes c.add_found.new.paths.items)
    (option_map string_bytes c.in_ok-directory_of.field-0) c.loop-name-test.true c.name-item.is c.deref.ensures c.loop-name.invariant
    c.in_ok-directory_of.ensures c.in_ok-add_found.ensures
