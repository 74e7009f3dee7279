-- The record of a port, as bytes.
use Rattle.std.specs.Prelude.{ℕ, ◌==◌, List, [], ◌∷◌, find, Option}
use Rattle.port_rules.specs.declared.depends.DependKind.{DependKind}
use Rattle.port_rules.specs.declared.depends.DependKind.TheVariants as kinds
use Rattle.port_rules.specs.Flavors.{FlavorsValue, make_flavors}
use Rattle.port_rules.specs.Packages.{PackageValue, make_package}
use Rattle.port_rules.specs.Depends.{DependValue, make_depend}
use Rattle.port_rules.specs.Ports.{PortValue, make_port}
use Rattle.index_row.specs.Reads.{Read, give, ◌>>=◌, give_if_some, byte, text, texts, list}
use Rattle.index_row.specs.Names.{name}

-- the flavors of a port: the chosen ones, the proper ones, and those that mark no name
unfoldable pub flavors : Read FlavorsValue
flavors bytes = (texts >>= λ chosen. texts >>= λ proper. texts >>= λ pseudo. give (make_flavors chosen proper pseudo)) bytes

-- a package: its name among the port's packages, its full name, and its comment
unfoldable pub port_package : Read PackageValue
port_package bytes = (text >>= λ subpackage. name >>= λ full. text >>= λ comment. give (make_package subpackage full comment)) bytes

-- the number by which rows name what a dependency is for
abbrev pub depend_number : DependKind → ℕ
depend_number kinds.Build = 1
depend_number kinds.Lib = 2
depend_number kinds.Run = 3
depend_number kinds.Test = 4

-- all that a dependency can be for
abbrev pub depend_kinds : List DependKind
depend_kinds = kinds.Build ∷ kinds.Lib ∷ kinds.Run ∷ kinds.Test ∷ []

-- what has this number, if anything has
unfoldable pub depend_kind_of : ℕ → Option DependKind
depend_kind_of number = find (λ kind. depend_number kind == number) depend_kinds

-- what a dependency is for: its number
unfoldable pub depend_kind : Read DependKind
depend_kind bytes = (byte >>= λ number. give_if_some (depend_kind_of number)) bytes

-- a dependency: what it is for, which package depends, and on what
unfoldable pub depend : Read DependValue
depend bytes = (depend_kind >>= λ kind. text >>= λ subpackage. text >>= λ item. give (make_depend kind subpackage item)) bytes

-- a port: its flavors, who maintains it, its categories, its packages, and what it depends on
unfoldable pub port : Read PortValue
port bytes =
    (flavors >>= λ flavors. text >>= λ maintainer. texts >>= λ categories. list port_package >>= λ packages. list depend
    >>= λ depends. give (make_port flavors maintainer categories packages depends)) bytes
