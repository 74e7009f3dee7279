-- An index whose rows are known.
use Rattle.std.specs.Prelude.{◌≡◌, ℕ, Bool, List, filter, map, Option, string_bytes, IfOk, IfSome, Result, Vec}
use Rattle.std.specs.Borrow.{Bor}
use Rattle.std.specs.Fn.{Shared}
use Rattle.std.specs.Global.{Global}
use Rattle.mk_paths.specs.World.{World, files_in}
use Rattle.port_rules.specs.Ports.{PortValue}
use Rattle.port_deps.specs.Roots.{RootValue}
use Rattle.port_index.specs.TreePaths.{directories}
use Rattle.port_index.specs.Dependencies.{TestsPorts, is_port_that}
use Rattle.port_index.specs.Index.{edges, listed_paths, needed_paths, root_of, roots}
use Rattle.port_index.specs.RowLaws.{SayAll}
use Rattle.port_index.specs.Seen.{entries_in}
use Rattle.port_index.specs.declared.known_index.IndexPaths.{IndexPaths}
use Rattle.port_index.specs.declared.known_index.KnownIndex.{KnownIndex}

-- they are the paths of the index of a world
pub record ArePathsOf (world : World) (paths : IndexPaths) : Type 0 where
  pub directories : map string_bytes paths.directories.items ≡ directories (files_in world)
  pub listed : map string_bytes paths.listed.items ≡ listed_paths world

-- it is the index of a world: its paths are those of that index, its rows say what each path leads to on which the
-- index depends, and the dependencies that are kept are those of the ports
pub record IsIndexOf (world : World) (index : KnownIndex) : Type 0 where
  pub paths : ArePathsOf world index.paths
  pub rows : SayAll world (entries_in index.rows) (needed_paths world)
  pub edges : IfSome index.edges (λ kept. kept.items ≡ edges world)

-- its paths and its rows are the same
pub record IsSameIndex (old new : KnownIndex) : Type 0 where
  pub paths : new.paths ≡ old.paths
  pub rows : new.rows ≡ old.rows

-- if it is the index of a world, these are all that the world has of some kind
abbrev pub GivesAll : {A F : Type 0} → (World → List A) → KnownIndex → Result (Vec A Global) F → Type 0
GivesAll kind index result = (world : World) → IsIndexOf world index → IfOk result (λ found. found.items ≡ kind world)

-- if it is the index of a world, this is the root at a path, if there is one
abbrev pub IsRootAt : List ℕ → KnownIndex → Option RootValue → Type 0
IsRootAt path index root = (world : World) → IsIndexOf world index → root ≡ root_of world path

-- if it is the index of a world, these are the world's ports that pass the test that a closure makes
abbrev pub GivesPortsThat : {F E : Type 0}
    → Shared F (Bor PortValue × Unit {0}) Bool → F → KnownIndex → Result (Vec RootValue Global) E → Type 0
GivesPortsThat calls passes index result =
    (world : World) (test : PortValue → Bool) → TestsPorts calls passes test → IsIndexOf world index
    → IfOk result (λ ports. ports.items ≡ filter (is_port_that test) (roots world))
