-- Where the makefile of a ports directory is (ports(7), PORTSDIR_PATH of bsd.port.mk(5)).
use Rattle.std.specs.Prelude.{ℕ, if◌then◌else◌, List, [], ◌∷◌, ◌++◌, map, Option, find, codes, ◌≡◌, ◌⊎◌, Result, IfOk}
use Rattle.std.specs.Prelude.{OnOk, IfErr}
use Rattle.std.specs.List.{filter_map}
use Rattle.std.specs.Result.{result_ok}
use Rattle.std.specs.FinMap.{contains_key}
use Rattle.general_facts.specs.Ascii.{slash}
use Rattle.mk_paths.specs.FileName.{resolved}
use Rattle.mk_paths.specs.World.{FileMap, World, files_in, search_path_of}
use Rattle.mk_paths.specs.FilesView.{Presence, Question, FilesView, noted, failed}
use Rattle.mk_paths.specs.declared.files.FilesFault.{FilesFault}
use Rattle.mk_paths.specs.declared.files.FilesFault.TheVariants.{Memory}
use Rattle.refusals.specs.Refused.{refused}
use Rattle.mk_paths.specs.declared.files.Names.{Ghosts}

-- the makefile of a directory in a tree, as it is written
abbrev pub makefile_in : List ℕ → List ℕ → List ℕ
makefile_in tree directory = tree ++ slash ∷ directory ++ codes "/Makefile"

-- the names that a directory's makefile may have, tree by tree; a text that is no name is passed over
abbrev pub candidates : List (List ℕ) → List ℕ → List (List ℕ)
candidates trees directory = filter_map (λ tree. result_ok (resolved (makefile_in tree directory))) trees

-- the makefile of a directory in the first of these trees that has such a file
abbrev pub place_among : FileMap → List (List ℕ) → List ℕ → Option (List ℕ)
place_among files trees directory = find (contains_key files) (candidates trees directory)

-- the place of a directory in a world
abbrev pub place : World → List ℕ → Option (List ℕ)
place world directory = place_among (files_in world) (search_path_of world) directory

-- the names up to the first that is there
abbrev pub up_to_first : FileMap → List (List ℕ) → List (List ℕ)
up_to_first files [] = []
up_to_first files (name ∷ names) = name ∷ (if contains_key files name then [] else up_to_first files names)

-- the questions that are asked to find the place of a directory, with their answers
abbrev pub places_asked : FileMap → List (List ℕ) → List ℕ → List Question
places_asked files trees directory =
    map (λ name. (name, Presence (contains_key files name))) (up_to_first files (candidates trees directory))

-- the place of a directory was asked for: the questions and their answers are in the log, if one is kept
abbrev pub AsksPlaces : FilesView → FilesView → List (List ℕ) → List ℕ → Type 0
AsksPlaces old new trees directory = new ≡ noted old (places_asked old.files trees directory)

-- The first of these questions were asked, some or none. Then a question failed with a fault that the files
-- may give, or there was no memory for a name.
abbrev pub StopsAsking : (FilesFault → Type 0) → FilesView → FilesView → List (List ℕ) → List ℕ → FilesFault → Type 0
StopsAsking may old new trees directory fault =
    (asked : List Question) × (rest : List Question) × (places_asked old.files trees directory ≡ asked ++ rest)
    × (((new ≡ failed (noted old asked)) × may fault) ⊎ ((fault ≡ Memory refused) × (new ≡ noted old asked)))

-- where a search succeeds, it found the place of a directory among these trees, if it has one
abbrev pub FindsPlace : {F : Type 0} → Result (Option (List ℕ)) F → FileMap → List (List ℕ) → List ℕ → Type 0
FindsPlace result files trees directory = IfOk result (λ found. found ≡ place_among files trees directory)

-- where a search succeeds, it asked the files for the place of a directory
abbrev pub SeeksPlace : {R F : Type 0} → Result R F → FilesView → FilesView → List (List ℕ) → List ℕ → Type 0
SeeksPlace result old new trees directory = OnOk result (AsksPlaces old new trees directory)

-- if a search fails, it asked some of the questions, and stopped at one or for memory
abbrev pub StopsSeeking : {R N : Type 0} → Ghosts N → Result R FilesFault → N → N → List (List ℕ) → List ℕ → Type 0
StopsSeeking names result old new trees directory =
    IfErr result (StopsAsking names.fails_with (names.view old) (names.view new) trees directory)

-- where a function succeeds, it gives the name that a directory's makefile has in this tree, if that is a name
abbrev pub GivesCandidate : {F : Type 0} → Result (Option (List ℕ)) F → List ℕ → List ℕ → Type 0
GivesCandidate result tree directory = IfOk result (λ name. name ≡ result_ok (resolved (makefile_in tree directory)))
