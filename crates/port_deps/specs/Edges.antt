-- Dependencies of ports on ports.
use Rattle.std.specs.Prelude.{ℕ, List, Option, option_map}
use Rattle.pkg_path.specs.Paths.{PathValue}
use Rattle.port_rules.specs.declared.depends.DependKind.{DependKind}
use Rattle.port_deps.specs.Items.{WantedValue, ItemValue}
use Rattle.port_deps.specs.Statuses.{FoundValue, status_of}
use Rattle.port_deps.specs.declared.statuses.Status.{Status}

-- a dependency: what it is for, which package depends, how it is written, the path that it names, if it can
-- be read, and its status
pub record EdgeValue : Type 0 where
  pub kind : DependKind
  pub subpackage : List ℕ
  pub item : List ℕ
  pub target : Option PathValue
  pub status : Status

-- the path that an item names
abbrev pub wanted_path : Option WantedValue → Option PathValue
wanted_path wanted = option_map (λ (wanted : WantedValue). wanted.path) wanted

-- the dependency that an item is, by what is found at its path
abbrev pub edge_of : ItemValue → FoundValue → EdgeValue
edge_of item found = record {
  kind = item.kind;
  subpackage = item.subpackage;
  item = item.text;
  target = wanted_path item.wanted;
  status = status_of item.wanted found;
}
