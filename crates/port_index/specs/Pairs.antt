-- The makefiles that are evaluated, each with the flavors of its evaluation.
use Rattle.std.specs.Prelude.{ℕ, if◌then◌else◌, List, Option, None, option_map, option_and_then}
use Rattle.std.specs.List.{filter_map}
use Rattle.std.specs.Str.{bytes_eq}
use Rattle.mk_paths.specs.World.{World}
use Rattle.mk_paths.specs.Place.{place}
use Rattle.pkg_path.specs.Paths.{PathValue, path_if_one}
use Rattle.port_index.specs.PathOutcomes.{own_directory}

-- the name of a makefile, and the flavors, if any are given
pub record Pair : Type 0 where
  pub makefile : List ℕ
  pub flavors : Option (List (List ℕ))

-- the makefile of a directory with flavors, or with none given, if it is there
abbrev pub pair_in : World → List ℕ → Option (List (List ℕ)) → Option Pair
pair_in world directory flavors = option_map (λ makefile. record { makefile = makefile; flavors = flavors }) (place world directory)

abbrev pub pair_named : World → PathValue → Option Pair
pair_named world path = pair_in world path.directory path.flavors

-- the makefile of a canonical path without a subpackage, with the path's flavors, if it is there
abbrev pub pair_at : World → List ℕ → Option Pair
pair_at world path =
    if bytes_eq path own_directory then pair_in world path None else option_and_then (pair_named world) (path_if_one path)

-- those of some paths
abbrev pub pairs_at : World → List (List ℕ) → List Pair
pairs_at world paths = filter_map (pair_at world) paths
