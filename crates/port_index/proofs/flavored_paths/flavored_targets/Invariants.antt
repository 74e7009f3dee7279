-- Those so far are what the items up to here name, as far as it has a comma.
use Rattle.std.proofs.Common.{◌≡◌, map, take, string_bytes}
use Rattle.std.specs.List.{filter_map}
use Rattle.port_index.specs.Flavored.{flavored_target}
use Rattle.port_index.proofs.flavored_paths.flavored_targets.Given as goal

abbrev pub invariant-loop-depend : goal.invariant-loop-depend
invariant-loop-depend l = map string_bytes l.found.items ≡ filter_map flavored_target (take l.depend-index l.depend-items)
