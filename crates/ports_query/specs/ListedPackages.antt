-- Which packages are listed.
use Rattle.std.specs.Prelude.{◌≡◌, ℕ, Bool, List, [], ◌∷◌, ◌++◌, map, filter, find, Option, Result, Ok, Err, IfOk, OnOk}
use Rattle.std.specs.Prelude.{Vec, if◌then◌else◌}
use Rattle.std.specs.Global.{Global}
use Rattle.std.specs.List.{flat_map, list_any}
use Rattle.std.specs.Str.{bytes_eq}
use Rattle.mk_base.specs.FaultAt.{FaultAt}
use Rattle.pkg_name.specs.Name.{name_text}
use Rattle.pkg_spec.specs.NameSet.{admitted_by}
use Rattle.port_rules.specs.Ports.{PortValue}
use Rattle.port_rules.specs.Packages.{PackageValue}
use Rattle.port_deps.specs.Roots.{RootValue}
use Rattle.ports_query.specs.Conditions.{ConditionValue}
use Rattle.ports_query.specs.Candidate.{meets_all}
use Rattle.ports_query.specs.declared.candidate.Candidate.{Candidate}
use Rattle.ports_query.specs.declared.listed_packages.Test.{Test}
use Rattle.ports_query.specs.declared.listed_packages.Test.TheVariants.{Meets, Admitted}

-- a package as it is listed: its full name, the path of its port, and which package of the port it is
pub record ListedValue : Type 0 where
  pub name : List ℕ
  pub path : List ℕ
  pub subpackage : List ℕ

abbrev pub listed_at : List ℕ → PackageValue → ListedValue
listed_at path found = record { name = name_text found.name; path = path; subpackage = found.subpackage }

-- a test of the packages of ports at their paths
abbrev pub PackageTest : Type 0
PackageTest = List ℕ → PortValue → PackageValue → Bool

-- the packages at a path that pass a test, by the state of the root there; a fault has none
abbrev pub packages_passing : PackageTest → List ℕ → Result PortValue FaultAt → List ListedValue
packages_passing test path (Ok port) = map (listed_at path) (filter (test path port) port.packages)
packages_passing test path (Err fault) = []

-- the packages of all roots that pass a test, root by root
abbrev pub listed_packages : PackageTest → List RootValue → List ListedValue
listed_packages test roots = flat_map (λ (root : RootValue). packages_passing test root.path root.state) roots

-- the packages that meet all conditions of a query
abbrev pub answer_of : List ConditionValue → List RootValue → List ListedValue
answer_of conditions roots = listed_packages (meets_all conditions) roots

-- the test that a package passes if the spec of this text admits it
abbrev pub spec_test : List ℕ → PackageTest
spec_test spec path port found = admitted_by spec found.name

-- the spec of this text admits a package of a port
abbrev pub admits_one : List ℕ → PortValue → Bool
admits_one spec port = list_any (λ (found : PackageValue). admitted_by spec found.name) port.packages

abbrev pub admitted_of : List ℕ → List RootValue → List ListedValue
admitted_of spec roots = listed_packages (spec_test spec) roots

-- the root at a canonical path
abbrev pub root_named : List RootValue → List ℕ → Option RootValue
root_named roots path = find (λ (root : RootValue). bytes_eq root.path path) roots

-- the test of packages that a test of the code is
abbrev pub test_seen : Test → PackageTest
test_seen (Meets query) = meets_all query.now
test_seen (Admitted spec) = spec_test spec.now

-- a package with its port passes such a test
abbrev pub passes : Test → Candidate → Bool
passes test candidate = test_seen test candidate.path.now candidate.port.now candidate.found.now

-- the packages of a root that pass a test
abbrev pub root_listed : Test → RootValue → List ListedValue
root_listed test root = packages_passing (test_seen test) root.path root.state

-- the packages of a port at a path that pass a test
abbrev pub listed_there : Test → List ℕ → PortValue → List ListedValue
listed_there test path port = map (listed_at path) (filter (test_seen test path port) port.packages)

-- where a function succeeds, it lists these packages
abbrev pub ListsPackages : {F : Type 0} → Result (Vec ListedValue Global) F → List ListedValue → Type 0
ListsPackages result listed = IfOk result (λ packages. packages.items ≡ listed)

-- where a function succeeds, it added these packages at the end
abbrev pub AddsListed : {R F : Type 0} → Result R F → Vec ListedValue Global → Vec ListedValue Global → List ListedValue → Type 0
AddsListed result before after added = OnOk result (after.items ≡ before.items ++ added)

-- where a function succeeds, it added a package at the end if that passes a test, and nothing if it doesn't
abbrev pub AddsPassing : {R F : Type 0} → Result R F → Vec ListedValue Global → Vec ListedValue Global → Test → Candidate → Type 0
AddsPassing result before after test candidate =
    OnOk result (after.items ≡ (if passes test candidate then before.items
    ++ listed_at candidate.path.now candidate.found.now ∷ [] else before.items))
