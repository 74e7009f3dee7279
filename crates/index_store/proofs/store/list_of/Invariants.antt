-- The paths so far, before those that are left.
use Rattle.std.proofs.Common.{◌≡◌, ◌++◌, map, string_bytes}
use Rattle.std.specs.BTreeSet.{keys}
use Rattle.index_store.proofs.store.list_of.Given as goal

abbrev pub invariant-loop-path : goal.invariant-loop-path
invariant-loop-path l =
    (goal.iterator-loop-path).can_next l.path-iterator ×
    (goal.iterator-loop-path).is_finite l.path-iterator ×
    (map string_bytes l.listed.items ++ map string_bytes l.path-iterator ≡ map string_bytes (keys l.noted))
