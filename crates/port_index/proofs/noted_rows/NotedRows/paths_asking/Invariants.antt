-- The paths so far, and those that asked for one of the names that are left.
use Rattle.std.proofs.Common.{◌≡◌, ◌||◌, ℕ, List, String, Global, map, string_bytes}
use Rattle.std.specs.BTreeMap.{get_by_text}
use Rattle.std.specs.BTreeSet.{keys}
use Rattle.std.specs.List.{list_any}
use Rattle.port_index.specs.AskedNames.{asks_in}
use Rattle.port_index.specs.FilledRows.{is_one_of}
use Rattle.port_index.proofs.noted_rows.NotedRows.paths_asking.Given as goal

abbrev pub invariant-loop-name : goal.invariant-loop-name
invariant-loop-name l =
    (goal.iterator-loop-name).can_next l.name-iterator ×
    (goal.iterator-loop-name).is_finite l.name-iterator ×
    ((path : List ℕ) → (is_one_of path (map string_bytes l.paths.items)
    || list_any (λ (name : String Global). asks_in (get_by_text l.self.rows path) (string_bytes name)) l.name-iterator)
    ≡ list_any (λ (name : String Global). asks_in (get_by_text l.self.rows path) (string_bytes name)) (keys l.names))
