-- The index of a world: its ports, and their dependencies.
use Rattle.std.specs.Prelude.{ℕ, List, ◌++◌, Option}
use Rattle.std.specs.List.{filter_map}
use Rattle.text_parts.specs.Order.{in_order}
use Rattle.mk_paths.specs.World.{World, files_in}
use Rattle.port_deps.specs.Roots.{RootValue, RootEdgeValue}
use Rattle.port_index.specs.PathOutcomes.{PathOutcome, outcome_at}
use Rattle.port_index.specs.TreePaths.{directories, listed_from}
use Rattle.port_index.specs.Dependencies.{roots_among, root_among, edges_among, edges_from, items_among, target_of}

-- the paths at which roots may be: directories, and what lists of directories name
abbrev pub listed_paths : World → List (List ℕ)
listed_paths world = listed_from (outcome_at world) (directories (files_in world))

-- the ports, and the faults that are met where ports should be: in the order of their paths, each once
abbrev pub roots : World → List RootValue
roots world = roots_among (outcome_at world) (listed_paths world)

-- every item of every port, in that order, with the status that follows from what the item's path leads to
abbrev pub edges : World → List RootEdgeValue
edges world = edges_among (outcome_at world) (listed_paths world)

-- the root at a path, if there is one
abbrev pub root_of : World → List ℕ → Option RootValue
root_of world path = root_among (outcome_at world) (listed_paths world) path

-- the dependencies of the port at a path, in the order of its items
abbrev pub edges_of : World → List ℕ → List RootEdgeValue
edges_of world path = edges_from (outcome_at world) (listed_paths world) path

-- these paths, and those that items of ports at them name, by what each path leads to; each once
abbrev pub needed_among : (List ℕ → PathOutcome) → List (List ℕ) → List (List ℕ)
needed_among outcomes listed = in_order (listed ++ filter_map target_of (items_among outcomes listed))

-- the paths on whose makefiles these depend, each once: those that are listed, and those that items name
abbrev pub needed_paths : World → List (List ℕ)
needed_paths world = needed_among (outcome_at world) (listed_paths world)
