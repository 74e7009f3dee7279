-- What a port is, as JSON: the members of each object in the order of their names' bytes (RFC 8259).
use Rattle.std.specs.Prelude.{ℕ, List, map, codes, String, string_bytes}
use Rattle.std.specs.Global.{Global}
use Rattle.pkg_path.specs.Paths.{PathValue, port_path}
use Rattle.pkg_name.specs.Name.{name_text}
use Rattle.port_rules.specs.Packages.{PackageValue}
use Rattle.port_rules.specs.Depends.{DependValue, word_of_kind}
use Rattle.port_rules.specs.Ports.{PortValue}
use Rattle.serde_json.specs.Data.{Data, string, array, object, no_members, member}
use Rattle.serde_json.specs.View.{items_of}

-- a list of texts
abbrev pub texts_body : List (List ℕ) → Data
texts_body texts = array (items_of (map string texts))

-- the same, given texts as a port has them
abbrev pub strings_body : List (String Global) → Data
strings_body texts = texts_body (map string_bytes texts)

-- a package: its comment, its full name, and which package of the port it is
abbrev pub package_body : PackageValue → Data
package_body found =
    object (member (codes "comment") (string found.comment)
    (member (codes "name") (string (name_text found.name))
    (member (codes "subpackage") (string found.subpackage) no_members)))

-- a dependency: its item, its kind, and its package
abbrev pub depend_body : DependValue → Data
depend_body depend =
    object (member (codes "item") (string depend.item)
    (member (codes "kind") (string (word_of_kind depend.kind))
    (member (codes "subpackage") (string depend.subpackage) no_members)))

-- the port that a path names; the path's subpackage doesn't count
abbrev pub port_body : PathValue → PortValue → Data
port_body path port =
    object (member (codes "categories") (texts_body port.categories)
    (member (codes "depends") (array (items_of (map depend_body port.depends)))
    (member (codes "flavor") (texts_body port.flavors.chosen)
    (member (codes "flavors") (texts_body port.flavors.proper)
    (member (codes "maintainer") (string port.maintainer)
    (member (codes "packages") (array (items_of (map package_body port.packages)))
    (member (codes "path") (string (port_path path))
    (member (codes "pseudo") (texts_body port.flavors.pseudo) no_members))))))))
