-- The roots so far are those at the paths up to here.
use Rattle.std.proofs.Common.{◌≡◌, map, take, string_bytes}
use Rattle.port_index.specs.Dependencies.{roots_among}
use Rattle.port_index.specs.Finders.{IsFinderOf}
use Rattle.port_index.specs.Seen.{entries_in, known_in}
use Rattle.port_index.proofs.roots.roots_among.Given as goal

abbrev pub invariant-loop-path : goal.invariant-loop-path
invariant-loop-path l = record {
  finder : IsFinderOf l.rows l.finder;
  found : l.found.items ≡ roots_among (known_in (entries_in l.rows)) (map string_bytes (take l.path-index l.paths));
}
