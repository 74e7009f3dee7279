-- Whether a port has the package that is asked for.
use Rattle.std.specs.Prelude.{ℕ, Bool, true, List, Option, Some, None}
use Rattle.port_rules.specs.Ports.{PortValue, has_package}

-- a port has the package that a path names, if it names one
abbrev pub has_named : Option (List ℕ) → PortValue → Bool
has_named None port = true
has_named (Some subpackage) port = has_package port subpackage
