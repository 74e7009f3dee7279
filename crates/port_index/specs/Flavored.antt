-- Paths with flavors.
use Rattle.std.specs.Prelude.{ℕ, if◌then◌else◌, List, Option, None, Some, option_and_then}
use Rattle.port_deps.specs.ItemText.{has_comma}
use Rattle.port_rules.specs.Depends.{DependValue}
use Rattle.port_index.specs.Dependencies.{target_by}

-- a path, if it has a comma
abbrev pub some_flavored : List ℕ → Option (List ℕ)
some_flavored path = if has_comma path then Some path else None

-- the same of a path that may not be there
abbrev pub if_flavored : Option (List ℕ) → Option (List ℕ)
if_flavored path = option_and_then some_flavored path

-- the path that the item of a dependency names, if the item can be read and the path has a comma
abbrev pub flavored_target : DependValue → Option (List ℕ)
flavored_target depend = if_flavored (target_by depend)
