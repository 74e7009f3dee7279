-- What is asked of the files to learn what a path leads to.
use Rattle.std.specs.Prelude.{ℕ, if◌then◌else◌, List, [], ◌++◌, Option, Some, None}
use Rattle.std.specs.Str.{bytes_eq}
use Rattle.mk_paths.specs.World.{World, files_in, search_path_of}
use Rattle.mk_paths.specs.FilesView.{Question}
use Rattle.mk_paths.specs.Place.{place, places_asked}
use Rattle.mk_eval.specs.Agreement.{questions_of}
use Rattle.pkg_path.specs.Paths.{PathValue, path_if_one}
use Rattle.port_index.specs.PathOutcomes.{own_directory}

-- the questions of a makefile's evaluation; none if there is no makefile
abbrev pub questions_after : World → Option (List (List ℕ)) → Option (List ℕ) → List Question
questions_after world flavors (Some makefile) = questions_of world.0 world.1 makefile flavors
questions_after world flavors None = []

-- the questions for the place of a directory, and then those of the makefile there
abbrev pub questions_in : World → List ℕ → Option (List (List ℕ)) → List Question
questions_in world directory flavors =
    places_asked (files_in world) (search_path_of world) directory ++ questions_after world flavors (place world directory)

-- those of a package path; none if there is no path
abbrev pub questions_named : World → Option PathValue → List Question
questions_named world (Some path) = questions_in world path.directory path.flavors
questions_named world None = []

-- The questions about files, with their answers, on which it depends what a canonical path without a
-- subpackage leads to.
unfoldable pub questions_at : World → List ℕ → List Question
questions_at world path = if bytes_eq path own_directory then questions_in world path None else questions_named world (path_if_one path)
