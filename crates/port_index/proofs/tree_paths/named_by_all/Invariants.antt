-- The paths so far are those that the directories up to here name.
use Rattle.std.proofs.Common.{◌≡◌, map, take, string_bytes}
use Rattle.std.specs.List.{flat_map}
use Rattle.port_index.specs.Finders.{IsFinderOf}
use Rattle.port_index.specs.TreePaths.{named_at}
use Rattle.port_index.specs.Seen.{entries_in, known_in}
use Rattle.port_index.proofs.tree_paths.named_by_all.Given as goal

abbrev pub invariant-loop-directory : goal.invariant-loop-directory
invariant-loop-directory l = record {
  finder : IsFinderOf l.rows l.finder;
  found : map string_bytes l.found.items ≡ flat_map (named_at (known_in (entries_in l.rows)))
      (map string_bytes (take l.directory-index l.directories));
}
