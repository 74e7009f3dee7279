-- The flavors so far are the names of the flavors up to here that are forbidden.
use Rattle.std.proofs.Common.{◌≡◌, map, take, drop}
use Rattle.std.specs.List.{filter}
use Rattle.std.specs.String.{string_bytes}
use Rattle.pkg_spec.specs.Alternatives.{forbids}
use Rattle.text_parts.specs.Cuts.{now_all}
use Rattle.pkg_spec.proofs.alternatives.forbidden_of.Given as goal

abbrev pub invariant-loop-flavor : goal.invariant-loop-flavor
invariant-loop-flavor l = map string_bytes l.forbidden.items ≡ map (drop 1) (filter forbids (now_all (take l.flavor-index l.flavors)))
