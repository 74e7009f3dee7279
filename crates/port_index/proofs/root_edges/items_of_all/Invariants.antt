-- The items so far are those of the ports at the paths up to here.
use Rattle.std.proofs.Common.{◌≡◌, map, take, string_bytes}
use Rattle.port_index.specs.Dependencies.{items_among}
use Rattle.port_index.specs.Finders.{IsFinderOf}
use Rattle.port_index.specs.Seen.{entries_in, known_in, item_seen}
use Rattle.port_index.proofs.root_edges.items_of_all.Given as goal

abbrev pub invariant-loop-path : goal.invariant-loop-path
invariant-loop-path l = record {
  finder : IsFinderOf l.rows l.finder;
  found : map item_seen l.found.items ≡ items_among (known_in (entries_in l.rows)) (map string_bytes (take l.path-index l.paths));
}
