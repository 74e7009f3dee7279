-- The paths so far, and those of the noted ones that are left and ask.
use Rattle.std.proofs.Common.{◌≡◌, ◌&&◌, ◌||◌, ℕ, List, map, string_bytes}
use Rattle.std.specs.BTreeMap.{get_by_text}
use Rattle.std.specs.BTreeSet.{keys}
use Rattle.port_index.specs.AskedNames.{asks_in}
use Rattle.port_index.specs.FilledRows.{is_one_of}
use Rattle.port_index.proofs.noted_rows.NotedRows.add_those_asking.Given as goal

abbrev pub invariant-loop-path : goal.invariant-loop-path
invariant-loop-path l =
    (goal.iterator-loop-path).can_next l.path-iterator ×
    (goal.iterator-loop-path).is_finite l.path-iterator ×
    ((path : List ℕ) → (is_one_of path (map string_bytes l.paths.items)
    || (is_one_of path (map string_bytes l.path-iterator) && asks_in (get_by_text l.self.rows path) l.name))
    ≡ (is_one_of path (map string_bytes l.initial.paths.items)
    || (is_one_of path (map string_bytes (keys l.fn.noted)) && asks_in (get_by_text l.self.rows path) l.name)))
