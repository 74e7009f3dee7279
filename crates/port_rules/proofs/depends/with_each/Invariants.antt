-- What is left to add, from here, ends as all of it from the start.
use Rattle.std.proofs.Common.{◌≡◌, map, drop, string_bytes}
use Rattle.mk_base.specs.Outcome.{each}
use Rattle.port_rules.specs.Depends.{add_depends}
use Rattle.port_rules.proofs.depends.with_each.Given as goal

abbrev pub invariant-loop-subpackage : goal.invariant-loop-subpackage
invariant-loop-subpackage l =
    each (add_depends l.env) l.initial.found.items (map string_bytes l.subpackages) l.initial.budget
    ≡ each (add_depends l.env) l.found.items (map string_bytes (drop l.subpackage-index l.subpackages)) l.budget
