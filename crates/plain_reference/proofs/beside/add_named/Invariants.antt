-- What the items up to here name is added.
use Rattle.std.proofs.Common.{◌≡◌, ◌++◌, map, take, string_bytes}
use Rattle.std.specs.List.{filter_map}
use Rattle.port_index.specs.Dependencies.{target_by}
use Rattle.plain_reference.proofs.beside.add_named.Given as goal

abbrev pub invariant-loop-depend : goal.invariant-loop-depend
invariant-loop-depend l = map string_bytes l.paths.items ≡ map string_bytes l.initial.paths.items ++ filter_map target_by
    (take l.depend-index l.depends)
