-- Whether an item is met, by what is found at its path. The statuses and their order are this
-- project's choice.
use Rattle.std.specs.Prelude.{ℕ, if◌then◌else◌, List, [], ◌∷◌, Option, Some, None, find, codes}
use Rattle.std.specs.Str.{bytes_eq}
use Rattle.mk_base.specs.declared.faults.FaultKind.{FaultKind}
use Rattle.mk_base.specs.declared.faults.FaultKind.TheVariants as kinds
use Rattle.pkg_spec.specs.NameSet.{admitted_by}
use Rattle.port_rules.specs.Ports.{PortValue}
use Rattle.port_rules.specs.Packages.{PackageValue}
use Rattle.port_deps.specs.ItemText.{WantedValue}
use Rattle.port_deps.specs.declared.statuses.Status.{Status}
use Rattle.port_deps.specs.declared.statuses.Status.TheVariants as statuses

-- what the makefile that a path names is found to be: not there, at fault, no port's, or the
-- makefile of a port
pub data FoundValue : Type 0 where
  NotThere : FoundValue
  Faulted : FaultKind → FoundValue
  NotPort : FoundValue
  Port : PortValue → FoundValue

-- the word that names a status
abbrev pub word_of_status : Status → List ℕ
word_of_status statuses.BadItem = codes "BadItem"
word_of_status statuses.NoPort = codes "NoPort"
word_of_status statuses.BadFlavor = codes "BadFlavor"
word_of_status statuses.Unevaluated = codes "Unevaluated"
word_of_status statuses.NoSubpackage = codes "NoSubpackage"
word_of_status statuses.SpecMismatch = codes "SpecMismatch"
word_of_status statuses.Ok = codes "Ok"

-- the package of this name
abbrev pub package_named : List PackageValue → List ℕ → Option PackageValue
package_named packages name = find (λ (found : PackageValue). bytes_eq found.subpackage name) packages

-- this package, or the first if there is none
abbrev pub or_first : Option PackageValue → List PackageValue → Option PackageValue
or_first (Some found) packages = Some found
or_first None [] = None
or_first None (first ∷ packages) = Some first

-- the package of a port that a path means: the one that it names; if it names none, `-main`; and if there is
-- no such package, the first
abbrev pub package_meant : PortValue → Option (List ℕ) → Option PackageValue
package_meant port (Some name) = package_named port.packages name
package_meant port None = or_first (package_named port.packages (codes "-main")) port.packages

-- the status by the package that is meant
abbrev pub status_with : List ℕ → Option PackageValue → Status
status_with spec None = statuses.NoSubpackage
status_with spec (Some found) = if admitted_by spec found.name then statuses.Ok else statuses.SpecMismatch

-- the status of an item whose path names this port
abbrev pub status_at : WantedValue → PortValue → Status
status_at wanted port = status_with wanted.spec (package_meant port wanted.path.subpackage)

-- the status of an item whose makefile has a fault
abbrev pub status_by_fault : FaultKind → Status
status_by_fault kinds.Flavor = statuses.BadFlavor
status_by_fault kind = statuses.Unevaluated

-- the status of an item by what is found at its path, with the flavors of the path
abbrev pub status_of : Option WantedValue → FoundValue → Status
status_of None found = statuses.BadItem
status_of (Some wanted) NotThere = statuses.NoPort
status_of (Some wanted) (Faulted kind) = status_by_fault kind
status_of (Some wanted) NotPort = statuses.NoPort
status_of (Some wanted) (Port port) = status_at wanted port
