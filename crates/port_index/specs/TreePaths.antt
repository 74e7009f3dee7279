-- The paths of a ports tree: the directories in which a makefile may be, and the paths that
-- lists of directories name (SUBDIR of bsd.port.subdir.mk(5)). Paths are in their canonical
-- form, without subpackages.
use Rattle.std.specs.Prelude.{◌≡◌, ℕ, ◌-◌, ◌==◌, nat_eq, ◌||◌, if◌then◌else◌, Bool, List, [], ◌∷◌, ◌++◌, length, take}
use Rattle.std.specs.Prelude.{Option, Some, None, option_and_then, option_map, unwrap_or, codes}
use Rattle.std.specs.List.{filter_map, flat_map, list_any, ends_with, after_first}
use Rattle.std.specs.FinMap.{keys}
use Rattle.std.specs.Str.{bytes_eq}
use Rattle.text_parts.specs.Order.{in_order}
use Rattle.mk_paths.specs.World.{FileMap}
use Rattle.pkg_path.specs.Paths.{path_if_one, is_bare_directory, port_path}
use Rattle.general_facts.specs.Ascii.{slash}
use Rattle.port_deps.specs.ItemText.{has_comma}
use Rattle.port_index.specs.PathOutcomes.{PathOutcome, Lists, own_directory}

abbrev pub is_slash : ℕ → Bool
is_slash byte = byte == slash

-- what follows the first slash of a text, if it has one
abbrev pub after_slash : List ℕ → Option (List ℕ)
after_slash text = if list_any is_slash text then Some (after_first is_slash text) else None

-- a text without this end, if it ends so
abbrev pub without_suffix : List ℕ → List ℕ → Option (List ℕ)
without_suffix end text = if ends_with nat_eq text end then Some (take (length text - length end) text) else None

-- the directory that `TREE/DIRECTORY` names below its tree; `TREE` names the trees' own directory
abbrev pub directory_below : List ℕ → List ℕ
directory_below place = unwrap_or (after_slash place) own_directory

-- the directory of a makefile by the file's name, which is `/TREE/DIRECTORY/Makefile`, or `/TREE/Makefile` in
-- the trees' own directory
abbrev pub makefile_directory : List ℕ → Option (List ℕ)
makefile_directory name = option_map directory_below (option_and_then after_slash (without_suffix (codes "/Makefile") name))

-- this directory, if a path names it or it is the trees' own
abbrev pub if_directory : List ℕ → Option (List ℕ)
if_directory directory = if bytes_eq directory own_directory || is_bare_directory directory then Some directory else None

-- the directory of which a name is the makefile, if it can be listed
unfoldable pub listable_directory : List ℕ → Option (List ℕ)
listable_directory name = option_and_then if_directory (makefile_directory name)

-- the directories in which a makefile may be; the search path decides whether one is found there
abbrev pub directories : FileMap → List (List ℕ)
directories files = in_order (filter_map listable_directory (keys files))

-- the text of a word below a directory; in the trees' own directory it is the word alone
abbrev pub path_below : List ℕ → List ℕ → List ℕ
path_below directory word = if bytes_eq directory own_directory then word else directory ++ slash ∷ word

-- the path that a word of a directory's SUBDIR names; only a word with a comma names one
abbrev pub path_of_word : List ℕ → List ℕ → Option (List ℕ)
path_of_word directory word =
    if has_comma word then option_map port_path (path_if_one (path_below directory word)) else None

-- the paths that a directory names, by what it leads to
abbrev pub named_in : List ℕ → PathOutcome → List (List ℕ)
named_in directory (Lists words) = filter_map (path_of_word directory) words
named_in directory outcome = []

-- the same, given what each path leads to
abbrev pub named_at : (List ℕ → PathOutcome) → List ℕ → List (List ℕ)
named_at outcomes directory = named_in directory (outcomes directory)

-- directories, and the paths that they name, in the order of their bytes, each once
abbrev pub listed_from : (List ℕ → PathOutcome) → List (List ℕ) → List (List ℕ)
listed_from outcomes directories = in_order (flat_map (named_at outcomes) directories ++ directories)

-- paths that are in the order of their bytes, each once
abbrev pub AreInOrder : List (List ℕ) → Type 0
AreInOrder paths = in_order paths ≡ paths
