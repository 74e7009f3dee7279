-- The directories so far are those of the names up to here.
use Rattle.std.proofs.Common.{◌≡◌, map, take, string_bytes}
use Rattle.std.specs.List.{filter_map}
use Rattle.port_index.specs.TreePaths.{listable_directory}
use Rattle.port_index.proofs.tree_paths.directories_of.Given as goal

abbrev pub invariant-loop-name : goal.invariant-loop-name
invariant-loop-name l = map string_bytes l.found.items ≡ filter_map listable_directory (map string_bytes (take l.name-index l.names))
