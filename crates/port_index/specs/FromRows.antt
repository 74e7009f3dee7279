-- What is learned of paths from rows in memory.
use Rattle.std.specs.Prelude.{◌≡◌, ℕ, if◌then◌else◌, Bool, List, [], ◌∷◌, ◌++◌, filter, map, Option, option_to_list}
use Rattle.std.specs.Prelude.{Result, Ok, IfOk, OnOk, String, string_bytes, Vec}
use Rattle.std.specs.Borrow.{Bor}
use Rattle.std.specs.Fn.{Shared}
use Rattle.std.specs.Global.{Global}
use Rattle.std.specs.List.{filter_map, flat_map}
use Rattle.port_rules.specs.Ports.{PortValue}
use Rattle.port_deps.specs.Roots.{RootValue, RootEdgeValue}
use Rattle.port_index.specs.PathOutcomes.{PathOutcome}
use Rattle.port_index.specs.FilledRows.{is_one_of}
use Rattle.port_index.specs.Finders.{FindsPaths}
use Rattle.port_index.specs.TreePaths.{AreInOrder, listed_from, named_at, named_in, path_of_word}
use Rattle.port_index.specs.Dependencies.{RootItemValue, TestsPorts, is_port_that, root_with, root_state, roots_among, root_among}
use Rattle.port_index.specs.Dependencies.{items_among, edge_at, edges_among, edges_from}
use Rattle.port_index.specs.Seen.{GivesTexts, AddsTexts, item_seen, outcomes_in}
use Rattle.port_index.specs.declared.root_edges.RootItem.{RootItem}
use Rattle.port_index.specs.declared.memory_rows.MemoryRows.{MemoryRows}
use Rattle.port_index.specs.declared.path_finder.PathFinder.{PathFinder}

-- ---- the paths that are listed

-- these are the directories and the paths that they name, by their rows
abbrev pub AreListed : List (String Global) → MemoryRows → Vec (String Global) Global → Type 0
AreListed directories rows found = GivesTexts (listed_from (outcomes_in rows) (map string_bytes directories)) found

-- these are the paths that the directories name, by their rows
abbrev pub AreNamedBy : List (String Global) → MemoryRows → Vec (String Global) Global → Type 0
AreNamedBy directories rows found = GivesTexts (flat_map (named_at (outcomes_in rows)) (map string_bytes directories)) found

-- the paths follow that a directory names, by what it leads to
abbrev pub AddsNamed : List ℕ → PathOutcome → Vec (String Global) Global → Vec (String Global) Global → Type 0
AddsNamed directory outcome old new = AddsTexts (named_in directory outcome) old new

-- the paths follow that words of a directory name
abbrev pub AddsWords : List ℕ → List (String Global) → Vec (String Global) Global → Vec (String Global) Global → Type 0
AddsWords directory words old new = AddsTexts (filter_map (path_of_word directory) (map string_bytes words)) old new

-- ---- the roots

-- these are the roots at the paths, by their rows
abbrev pub AreRootsAmong : List (String Global) → MemoryRows → Vec RootValue Global → Type 0
AreRootsAmong paths rows found = found.items ≡ roots_among (outcomes_in rows) (map string_bytes paths)

-- if the paths are in order, this is the root at one of them, if there is one
abbrev pub IsRootAmong : List ℕ → List (String Global) → MemoryRows → Option RootValue → Type 0
IsRootAmong path paths rows root =
    AreInOrder (map string_bytes paths) → root ≡ root_among (outcomes_in rows) (map string_bytes paths) path

-- the root follows that is at a path, by what the path leads to
abbrev pub AddsRoot : List ℕ → PathOutcome → Vec RootValue Global → Vec RootValue Global → Type 0
AddsRoot path outcome old new = new.items ≡ old.items ++ option_to_list (root_with path (root_state outcome))

-- if the paths are in order, these are the ports at them that pass the test that a closure makes
abbrev pub FindsPortsThat : {F E : Type 0}
    → Shared F (Bor PortValue × Unit {0}) Bool → F → List (String Global) → MemoryRows → Result (Vec RootValue Global) E → Type 0
FindsPortsThat calls passes paths rows result =
    (test : PortValue → Bool) → TestsPorts calls passes test → AreInOrder (map string_bytes paths)
    → IfOk result (λ found. found.items ≡ filter (is_port_that test) (roots_among (outcomes_in rows) (map string_bytes paths)))

-- if a path is one of those that it finds in order, the port there follows
abbrev pub AddsPortIfFound : {A E : Type 0}
    → List ℕ → PortValue → PathFinder → Vec RootValue Global → Vec RootValue Global → Result A E → Type 0
AddsPortIfFound path port finder old new result =
    (paths : List (List ℕ)) → FindsPaths paths finder → AreInOrder paths
    → OnOk result (new.items
    ≡ old.items ++ (if is_one_of path paths then record { path = path; state = Ok port } ∷ [] else []))

-- ---- the dependencies

-- these are the items of the ports at the paths, by their rows
abbrev pub AreItemsAmong : List (String Global) → MemoryRows → Vec RootItem Global → Type 0
AreItemsAmong paths rows found = map item_seen found.items ≡ items_among (outcomes_in rows) (map string_bytes paths)

-- these items follow those that were there
abbrev pub PutsItems : List RootItemValue → Vec RootItem Global → Vec RootItem Global → Type 0
PutsItems items old new = map item_seen new.items ≡ map item_seen old.items ++ items

-- it is the dependency that an item is, by the row of the path that the item names
abbrev pub IsEdgeOf : RootItem → MemoryRows → RootEdgeValue → Type 0
IsEdgeOf rooted rows edge = edge ≡ edge_at (outcomes_in rows) (item_seen rooted)

-- these are the dependencies that the items are, by the rows of the paths that the items name
abbrev pub AreEdgesOf : List RootItem → MemoryRows → Vec RootEdgeValue Global → Type 0
AreEdgesOf items rows found = found.items ≡ map (edge_at (outcomes_in rows)) (map item_seen items)

-- these are the dependencies of the ports at the paths, by their rows
abbrev pub AreEdgesAmong : List (String Global) → MemoryRows → Vec RootEdgeValue Global → Type 0
AreEdgesAmong paths rows found = found.items ≡ edges_among (outcomes_in rows) (map string_bytes paths)

-- if the paths are in order, these are the dependencies of the port at one of them
abbrev pub GivesEdgesFrom : {E : Type 0} → List ℕ → List (String Global) → MemoryRows → Result (Vec RootEdgeValue Global) E → Type 0
GivesEdgesFrom path paths rows result =
    AreInOrder (map string_bytes paths)
    → IfOk result (λ found. found.items ≡ edges_from (outcomes_in rows) (map string_bytes paths) path)
