-- The dependencies of the items so far follow those that were there.
use Rattle.std.proofs.Common.{◌≡◌, ◌++◌, map, string_bytes}
use Rattle.port_rules.specs.Depends.{depends}
use Rattle.port_rules.proofs.depends.put_depends.Given as goal

abbrev pub invariant-loop-item : goal.invariant-loop-item
invariant-loop-item l = l.found.items ≡ l.initial.found.items ++ depends l.kind l.subpackage (map string_bytes l.yielded)
