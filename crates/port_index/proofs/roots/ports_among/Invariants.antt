-- The ports so far, before those of the rows that are left.
use Rattle.std.proofs.Common.{◌≡◌, ◌++◌, Bool, map, string_bytes}
use Rattle.port_rules.specs.Ports.{PortValue}
use Rattle.port_index.specs.Dependencies.{TestsPorts}
use Rattle.port_index.specs.Finders.{FindsPaths}
use Rattle.port_index.specs.TreePaths.{AreInOrder}
use Rattle.port_index.proofs.PortsThat.{chosen}
use Rattle.port_index.proofs.roots.ports_among.Given as goal

abbrev pub invariant-loop-path : goal.invariant-loop-path
invariant-loop-path g l =
    (goal.iterator-loop-path g).can_next l.path-iterator ×
    (goal.iterator-loop-path g).is_finite l.path-iterator ×
    FindsPaths (map string_bytes l.fn.paths) l.finder ×
    ((test : PortValue → Bool) → TestsPorts g.F.Fn l.passes test → AreInOrder (map string_bytes l.fn.paths)
    → l.found.items ++ chosen test (map string_bytes l.fn.paths) l.path-iterator
    ≡ chosen test (map string_bytes l.fn.paths) l.rows.noted.rows.entries)
