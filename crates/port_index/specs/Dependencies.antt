-- The ports at listed paths, and their dependencies, by what each path leads to.
use Rattle.std.specs.Prelude.{◌≡◌, ℕ, Bool, false, List, [], Option, Some, None, filter, find, option_map, map, Result, Ok, Err}
use Rattle.std.specs.Borrow.{Bor}
use Rattle.std.specs.Fn.{FnReturnsAt, Shared}
use Rattle.std.specs.List.{filter_map, flat_map}
use Rattle.std.specs.Str.{bytes_eq}
use Rattle.mk_base.specs.FaultAt.{FaultAt}
use Rattle.pkg_path.specs.Paths.{port_path}
use Rattle.port_rules.specs.Ports.{PortValue}
use Rattle.port_rules.specs.Depends.{DependValue}
use Rattle.port_deps.specs.Items.{ItemValue, WantedValue, item_of, wanted_of}
use Rattle.port_deps.specs.Statuses.{FoundValue}
use Rattle.port_deps.specs.Statuses as found
use Rattle.port_deps.specs.Edges.{edge_of}
use Rattle.port_deps.specs.Roots.{RootValue, RootEdgeValue}
use Rattle.port_index.specs.PathOutcomes.{PathOutcome, Absent, Faulty, Port, BadPort, Lists, BadList, FlavoredList, Other}

-- the root at a path, by what the path leads to: a port, or a fault, that of its record or of SUBDIR too
abbrev pub root_state : PathOutcome → Option (Result PortValue FaultAt)
root_state Absent = None
root_state (Faulty fault) = Some (Err fault)
root_state (Port port) = Some (Ok port)
root_state (BadPort fault) = Some (Err fault)
root_state (Lists words) = None
root_state (BadList fault) = Some (Err fault)
root_state FlavoredList = None
root_state Other = None

abbrev pub root_with : List ℕ → Option (Result PortValue FaultAt) → Option RootValue
root_with path None = None
root_with path (Some state) = Some (record { path = path; state = state })

-- the root at a path, if there is one
abbrev pub root_at : (List ℕ → PathOutcome) → List ℕ → Option RootValue
root_at outcomes path = root_with path (root_state (outcomes path))

abbrev pub roots_among : (List ℕ → PathOutcome) → List (List ℕ) → List RootValue
roots_among outcomes paths = filter_map (root_at outcomes) paths

-- of the roots at these paths, the one at a path, if there is one
abbrev pub root_among : (List ℕ → PathOutcome) → List (List ℕ) → List ℕ → Option RootValue
root_among outcomes paths path = find (λ (root : RootValue). bytes_eq root.path path) (roots_among outcomes paths)

-- whether a root is a port that passes a test
abbrev pub passes_state : (PortValue → Bool) → Result PortValue FaultAt → Bool
passes_state test (Ok port) = test port
passes_state test (Err fault) = false

abbrev pub is_port_that : (PortValue → Bool) → RootValue → Bool
is_port_that test root = passes_state test root.state

-- whatever a closure answers about a port is what the test says of it
abbrev pub TestsPorts : {F : Type 0} → Shared F (Bor PortValue × Unit {0}) Bool → F → (PortValue → Bool) → Type 0
TestsPorts calls closure test = (port : PortValue) (answer : Bool) → FnReturnsAt calls closure port answer → answer ≡ test port

-- an item of the port at a path
pub record RootItemValue : Type 0 where
  pub root : List ℕ
  pub item : ItemValue

abbrev pub item_at : List ℕ → ItemValue → RootItemValue
item_at root item = record { root = root; item = item }

-- the items at a path, by what the path leads to: those of a port
abbrev pub items_in : List ℕ → PathOutcome → List RootItemValue
items_in path (Port port) = map (item_at path) (map item_of port.depends)
items_in path outcome = []

abbrev pub items_at : (List ℕ → PathOutcome) → List ℕ → List RootItemValue
items_at outcomes path = items_in path (outcomes path)

abbrev pub items_among : (List ℕ → PathOutcome) → List (List ℕ) → List RootItemValue
items_among outcomes paths = flat_map (items_at outcomes) paths

-- the path that is asked for, without its subpackage, if something is
abbrev pub target_in : Option WantedValue → Option (List ℕ)
target_in wanted = option_map (λ (wanted : WantedValue). port_path wanted.path) wanted

-- the path that an item names, if the item can be read
abbrev pub target_of : RootItemValue → Option (List ℕ)
target_of rooted = target_in rooted.item.wanted

-- the path that the item of a dependency names, if the item can be read
abbrev pub target_by : DependValue → Option (List ℕ)
target_by depend = target_in (wanted_of depend.item)

-- the paths that the items of a port name, by what the port's path leads to
abbrev pub targets_in : PathOutcome → List (List ℕ)
targets_in (Port port) = filter_map target_by port.depends
targets_in outcome = []

-- what an item finds if its path leads to this: a list is no port, even if its SUBDIR has a fault
abbrev pub found_of : PathOutcome → FoundValue
found_of Absent = found.NotThere
found_of (Faulty fault) = found.Faulted fault.kind
found_of (Port port) = found.Port port
found_of (BadPort fault) = found.Faulted fault.kind
found_of (Lists words) = found.NotPort
found_of (BadList fault) = found.NotPort
found_of FlavoredList = found.NotPort
found_of Other = found.NotPort

abbrev pub found_at : (List ℕ → PathOutcome) → Option (List ℕ) → FoundValue
found_at outcomes None = found.NotThere
found_at outcomes (Some path) = found_of (outcomes path)

-- the dependency that an item is: its status depends on what the item's path leads to
abbrev pub edge_at : (List ℕ → PathOutcome) → RootItemValue → RootEdgeValue
edge_at outcomes rooted = record { root = rooted.root; edge = edge_of rooted.item (found_at outcomes (target_of rooted)) }

abbrev pub edges_among : (List ℕ → PathOutcome) → List (List ℕ) → List RootEdgeValue
edges_among outcomes paths = map (edge_at outcomes) (items_among outcomes paths)

-- of the dependencies of the ports at these paths, those of the port at a path
abbrev pub edges_from : (List ℕ → PathOutcome) → List (List ℕ) → List ℕ → List RootEdgeValue
edges_from outcomes paths path = filter (λ (edge : RootEdgeValue). bytes_eq edge.root path) (edges_among outcomes paths)
