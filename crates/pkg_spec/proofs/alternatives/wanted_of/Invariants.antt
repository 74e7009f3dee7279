-- The flavors so far are those of the flavors up to here that are wanted.
use Rattle.std.proofs.Common.{◌≡◌, map, take, not}
use Rattle.std.specs.List.{filter}
use Rattle.std.specs.String.{string_bytes}
use Rattle.pkg_spec.specs.Alternatives.{forbids}
use Rattle.text_parts.specs.Cuts.{now_all}
use Rattle.pkg_spec.proofs.alternatives.wanted_of.Given as goal

abbrev pub invariant-loop-flavor : goal.invariant-loop-flavor
invariant-loop-flavor l = map string_bytes l.wanted.items ≡ filter (λ flavor. not (forbids flavor))
    (now_all (take l.flavor-index l.flavors))
