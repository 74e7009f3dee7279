-- The marks so far are those of the flavors up to here.
use Rattle.std.proofs.Common.{◌≡◌, map, filter, take, string_bytes}
use Rattle.text_parts.specs.Cuts.{now_all}
use Rattle.mk_env.specs.Expansion.{is_among}
use Rattle.port_rules.proofs.flavors.PortFlavors.marks.Given as goal

abbrev pub invariant-loop-flavor : goal.invariant-loop-flavor
invariant-loop-flavor l =
    now_all l.marks.items ≡ filter (λ flavor. is_among flavor l.self.chosen) (map string_bytes (take l.flavor-index l.flavor-items))
