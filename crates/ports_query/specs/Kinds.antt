-- The kinds of dependencies that are asked for, by their words.
use Rattle.std.specs.Prelude.{ℕ, ◌||◌, if◌then◌else◌, Bool, true, false, List, [], Option, Some, None, codes}
use Rattle.std.specs.Str.{bytes_eq}
use Rattle.port_rules.specs.declared.depends.DependKind.{DependKind}
use Rattle.port_rules.specs.declared.depends.DependKind.TheVariants.{Build, Lib, Run, Test}
use Rattle.ports_query.specs.declared.kinds.Kinds.{Kinds}
use Rattle.ports_query.specs.declared.kinds.Kinds.TheVariants.{All, One}

-- the kinds that a word names: `all`, and an empty word, name each; other words name none
abbrev pub kinds_of : List ℕ → Option Kinds
kinds_of word =
    if bytes_eq word [] || bytes_eq word (codes "all") then Some All
    else if bytes_eq word (codes "build") then Some (One Build)
    else if bytes_eq word (codes "lib") then Some (One Lib)
    else if bytes_eq word (codes "run") then Some (One Run)
    else if bytes_eq word (codes "test") then Some (One Test)
    else None

-- the same kind
abbrev pub same_kind : DependKind → DependKind → Bool
same_kind Build Build = true
same_kind Lib Lib = true
same_kind Run Run = true
same_kind Test Test = true
same_kind kind other = false

-- a kind is one of those
abbrev pub has_kind : Kinds → DependKind → Bool
has_kind All kind = true
has_kind (One wanted) kind = same_kind wanted kind
