-- The items of a port.
use Rattle.std.specs.Prelude.{ℕ, List, Option}
use Rattle.port_rules.specs.declared.depends.DependKind.{DependKind}
use Rattle.port_rules.specs.Depends.{DependValue}
pub use Rattle.port_deps.specs.ItemText.{WantedValue, wanted_of}

-- an item: what it is for, which package needs it, how it is written, and what it asks for, if
-- it can be read
pub record ItemValue : Type 0 where
  pub kind : DependKind
  pub subpackage : List ℕ
  pub text : List ℕ
  pub wanted : Option WantedValue

-- the item that a dependency is
abbrev pub item_of : DependValue → ItemValue
item_of depend = record { kind = depend.kind; subpackage = depend.subpackage; text = depend.item; wanted = wanted_of depend.item }
