-- Which dependencies a port has, and which lead to one.
use Rattle.std.specs.Prelude.{◌≡◌, ℕ, ◌&&◌, ◌||◌, Bool, true, false, List, map, filter, Option, Some, None, Result, IfOk, Vec}
use Rattle.std.specs.Borrow.{Bor}
use Rattle.std.specs.Global.{Global}
use Rattle.std.specs.Str.{bytes_eq}
use Rattle.pkg_path.specs.Paths.{PathValue, port_path}
use Rattle.port_rules.specs.declared.depends.DependKind.{DependKind}
use Rattle.port_rules.specs.declared.depends.DependKind.TheVariants.{Build, Lib, Run, Test}
use Rattle.port_deps.specs.Edges.{EdgeValue}
use Rattle.port_deps.specs.Roots.{RootEdgeValue}
use Rattle.ports_query.specs.Kinds.{has_kind}
use Rattle.ports_query.specs.declared.kinds.Kinds.{Kinds}

-- dependencies of these kinds are for the port as a whole: to be built and tested
abbrev pub is_of_port : DependKind → Bool
is_of_port Build = true
is_of_port Lib = false
is_of_port Run = false
is_of_port Test = true

-- a subpackage keeps its own dependencies and those of the port as a whole; if none is named, all are kept
abbrev pub keeps : Option (List ℕ) → EdgeValue → Bool
keeps None edge = true
keeps (Some subpackage) edge = is_of_port edge.kind || bytes_eq edge.subpackage subpackage

-- a dependency of the port that a path names, and of its subpackage if the path names one
abbrev pub is_of : PathValue → RootEdgeValue → Bool
is_of path edge = bytes_eq edge.root (port_path path) && keeps path.subpackage edge.edge

-- the dependencies of these kinds that a path has, in their order
abbrev pub first_edges_of : Kinds → PathValue → List RootEdgeValue → List RootEdgeValue
first_edges_of kinds path edges = filter (λ (edge : RootEdgeValue). has_kind kinds edge.edge.kind && is_of path edge) edges

-- if a path names a subpackage, the target names the same one
abbrev pub names_it : Option (List ℕ) → Option (List ℕ) → Bool
names_it None named = true
names_it (Some subpackage) None = false
names_it (Some subpackage) (Some named) = bytes_eq named subpackage

-- a target is the port of this canonical path, and the subpackage if one is named
abbrev pub is_at : List ℕ → Option (List ℕ) → Option PathValue → Bool
is_at root subpackage None = false
is_at root subpackage (Some target) = bytes_eq (port_path target) root && names_it subpackage target.subpackage

-- a target is the port that a path names, and the subpackage if the path names one
abbrev pub is_target : PathValue → Option PathValue → Bool
is_target path target = is_at (port_path path) path.subpackage target

-- the dependencies of these kinds, of whatever status, that lead to a path, in their order
abbrev pub edges_to_of : Kinds → PathValue → List RootEdgeValue → List RootEdgeValue
edges_to_of kinds path edges = filter (λ (edge : RootEdgeValue). has_kind kinds edge.edge.kind && is_target path edge.edge.target) edges

-- the dependencies that references point to
abbrev pub edges_lent : List (Bor RootEdgeValue) → List RootEdgeValue
edges_lent edges = map (λ edge. edge.now) edges

-- a dependency is of these kinds and of a port, and of its subpackage if one is named
abbrev pub is_first_edge : Kinds → List ℕ → Option (List ℕ) → RootEdgeValue → Bool
is_first_edge kinds root subpackage edge = has_kind kinds edge.edge.kind && (bytes_eq edge.root root && keeps subpackage edge.edge)

-- a dependency is of these kinds and leads to a port, and to its subpackage if one is named
abbrev pub is_edge_to : Kinds → List ℕ → Option (List ℕ) → RootEdgeValue → Bool
is_edge_to kinds root subpackage edge = has_kind kinds edge.edge.kind && is_at root subpackage edge.edge.target

-- where a function succeeds, it lends these dependencies
abbrev pub LendsEdges : {F : Type 0} → Result (Vec (Bor RootEdgeValue) Global) F → List RootEdgeValue → Type 0
LendsEdges result edges = IfOk result (λ found. edges_lent found.items ≡ edges)
