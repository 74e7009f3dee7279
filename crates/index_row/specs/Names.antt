-- The name of a package, as bytes.
use Rattle.pkg_name.specs.Name.{NameParts, split_name}
use Rattle.index_row.specs.Reads.{Read, ◌>>=◌, give_if_some, text}

-- the name that a text is split into
unfoldable pub name : Read NameParts
name bytes = (text >>= λ found. give_if_some (split_name found)) bytes
