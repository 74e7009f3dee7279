-- Those so far are all that the items of the ports up to here name.
use Rattle.std.proofs.Common.{◌≡◌, map, take, string_bytes}
use Rattle.std.specs.List.{flat_map}
use Rattle.port_index.specs.Dependencies.{targets_in}
use Rattle.port_index.specs.Finders.{IsFinderOf}
use Rattle.port_index.specs.Seen.{entries_in, known_in}
use Rattle.plain_reference.proofs.beside.paths_beside.Given as goal

abbrev pub invariant-loop-path : goal.invariant-loop-path
invariant-loop-path l = record {
  finder : IsFinderOf l.rows l.finder;
  beside : map string_bytes l.beside.items ≡ flat_map (λ path. targets_in (known_in (entries_in l.rows) path))
      (map string_bytes (take l.path-index l.listed));
}
