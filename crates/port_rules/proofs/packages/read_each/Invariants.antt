-- What is left to read, from here, ends as all of it from the start.
use Rattle.std.proofs.Common.{◌≡◌, [], map, drop, string_bytes}
use Rattle.mk_base.specs.Outcome.{each}
use Rattle.text_parts.specs.Cuts.{now_all}
use Rattle.port_rules.specs.Packages.{add_package}
use Rattle.port_rules.proofs.packages.read_each.Given as goal

abbrev pub invariant-loop-subpackage : goal.invariant-loop-subpackage
invariant-loop-subpackage l =
    each (add_package l.env (now_all l.marks)) [] (map string_bytes l.subpackages) l.initial.budget
    ≡ each (add_package l.env (now_all l.marks)) l.found.items (map string_bytes (drop l.subpackage-index l.subpackages)) l.budget
