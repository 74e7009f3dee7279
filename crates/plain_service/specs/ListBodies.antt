-- Lists of ports, packages and dependencies, as JSON: the members of each object in the order of
-- their names' bytes (RFC 8259).
use Rattle.std.specs.Prelude.{ℕ, List, [], Option, Some, None, Result, Ok, Err, map, codes}
use Rattle.std.specs.List.{filter_map}
use Rattle.mk_base.specs.Faults.{fault_number}
use Rattle.mk_base.specs.FaultAt.{FaultAt}
use Rattle.pkg_path.specs.Paths.{PathValue, canonical}
use Rattle.port_rules.specs.Depends.{word_of_kind}
use Rattle.port_deps.specs.Edges.{EdgeValue}
use Rattle.port_rules.specs.Ports.{PortValue}
use Rattle.port_deps.specs.Roots.{RootValue, RootEdgeValue}
use Rattle.port_deps.specs.Statuses.{word_of_status as status_word}
use Rattle.ports_query.specs.ListedPackages.{ListedValue}
use Rattle.serde_json.specs.Data.{Data, string, number, unsigned, array, object, no_members, member}
use Rattle.serde_json.specs.View.{items_of}
use Rattle.plain_service.specs.PortBody.{texts_body}

-- an object with one member, a list
abbrev pub list_body : List ℕ → List Data → Data
list_body name items = object (member name (array (items_of items)) no_members)

-- the same, if the items are texts
abbrev pub texts_list : List ℕ → List (List ℕ) → Data
texts_list name texts = list_body name (map string texts)

-- a package: its full name, the path of its port, and which package of the port it is
abbrev pub listed_body : ListedValue → Data
listed_body listed =
    object (member (codes "name") (string listed.name)
    (member (codes "path") (string listed.path)
    (member (codes "subpackage") (string listed.subpackage) no_members)))

-- the same, given its texts
abbrev pub listing : List ℕ → List ℕ → List ℕ → Data
listing name path subpackage = listed_body (record { name = name; path = path; subpackage = subpackage })

abbrev pub packages_body : List ListedValue → Data
packages_body packages = list_body (codes "packages") (map listed_body packages)

-- the path that an item names; it is empty if the item can't be read
abbrev pub target_text : Option PathValue → List ℕ
target_text None = []
target_text (Some path) = canonical path

-- a dependency of a port
abbrev pub dependency_body : EdgeValue → Data
dependency_body edge =
    object (member (codes "item") (string edge.item)
    (member (codes "kind") (string (word_of_kind edge.kind))
    (member (codes "status") (string (status_word edge.status))
    (member (codes "subpackage") (string edge.subpackage)
    (member (codes "target") (string (target_text edge.target)) no_members)))))

abbrev pub dependencies_body : List RootEdgeValue → Data
dependencies_body edges = list_body (codes "deps") (map (λ (edge : RootEdgeValue). dependency_body edge.edge) edges)

-- a dependency on a port, with the port that depends on it
abbrev pub dependent_body : RootEdgeValue → Data
dependent_body edge =
    object (member (codes "item") (string edge.edge.item)
    (member (codes "kind") (string (word_of_kind edge.edge.kind))
    (member (codes "path") (string edge.root)
    (member (codes "status") (string (status_word edge.edge.status))
    (member (codes "subpackage") (string edge.edge.subpackage) no_members)))))

-- the same, given the path of the port that depends
abbrev pub dependent_of : List ℕ → EdgeValue → Data
dependent_of root edge = dependent_body (record { root = root; edge = edge })

abbrev pub dependents_body : List RootEdgeValue → Data
dependents_body edges = list_body (codes "rdeps") (map dependent_body edges)

-- the paths of the ports that are reached, and of those that reach one
abbrev pub reached_body : List (List ℕ) → Data
reached_body paths = object (member (codes "deps") (texts_body paths) no_members)

abbrev pub reaching_body : List (List ℕ) → Data
reaching_body paths = object (member (codes "rdeps") (texts_body paths) no_members)

-- a fault, and the path of the directory where it is met
abbrev pub fault_at_body : List ℕ → FaultAt → Data
fault_at_body path fault =
    object (member (codes "kind") (number (unsigned (fault_number fault.kind)))
    (member (codes "line") (number (unsigned fault.line))
    (member (codes "name") (string fault.name)
    (member (codes "path") (string path) no_members))))

-- the fault at a root, if one is met there
abbrev pub fault_in : List ℕ → Result PortValue FaultAt → Option Data
fault_in path (Ok port) = None
fault_in path (Err fault) = Some (fault_at_body path fault)

abbrev pub root_fault_body : RootValue → Option Data
root_fault_body root = fault_in root.path root.state

abbrev pub faults_body : List RootValue → Data
faults_body roots = list_body (codes "faults") (filter_map root_fault_body roots)
