-- The paths of ports as the code keeps them.
use Rattle.std.specs.Prelude.{ℕ, List, string_bytes}
use Rattle.ports_query.specs.declared.port_path.PortPath.{PortPath}
use Rattle.ports_query.specs.declared.port_path.PortPath.TheVariants.{Plain, Flavored}

-- the path of a port, as text
abbrev pub path_seen : PortPath → List ℕ
path_seen (Plain text) = text.now
path_seen (Flavored text) = string_bytes text
