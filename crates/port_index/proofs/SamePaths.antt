-- What a path leads to in two worlds that give the same answers.
use Rattle.std.proofs.Common.{◌≡◌, ◌∙◌, ap, ap₂, sym, refl, ℕ, Bool, true, false, List, [], ◌∷◌, ◌++◌, Option, Some, None}
use Rattle.std.specs.Prelude.{if◌then◌else◌, find, map}
use Rattle.std.specs.FinMap.{contains_key}
use Rattle.std.specs.Str.{bytes_eq}
use Rattle.mk_paths.specs.World.{FileMap, World}
use Rattle.mk_paths.specs.declared.search_path.Settings.{Settings}
use Rattle.mk_paths.specs.FilesView.{Question, Presence}
use Rattle.mk_paths.specs.Place.{candidates, place, up_to_first, places_asked}
use Rattle.mk_eval.specs.Agreement.{Agrees, Agrees-first, Agrees-rest, IsTheSameWhereAnswered}
use Rattle.pkg_path.specs.Paths.{PathValue, path_if_one}
use Rattle.port_index.specs.PathOutcomes.{Finding, finding_of_evaluation, finding_of, finding_in, finding_named, finding_at, own_directory}
use Rattle.port_index.specs.PathQuestions.{questions_after, questions_in, questions_named, questions_at}
use Rattle.port_index.specs.PathLaws.{PathIsTheSameWhereAnswered}

module _ (files other : FileMap) where
  abbrev asked : FileMap → List ℕ → Question
  asked these name = (name, Presence (contains_key these name))

  -- the first of some names that is there, and what is asked for it
  abbrev AreFoundAlike : List (List ℕ) → Type 0
  AreFoundAlike names =
      (find (contains_key other) names ≡ find (contains_key files) names)
      × (map (asked other) (up_to_first other names) ≡ map (asked files) (up_to_first files names))

  found_by : (name : List ℕ) (names : List (List ℕ)) (there here : Bool) → there ≡ here
      → (Agrees other (map (asked files) (up_to_first files names)) → AreFoundAlike names)
      → Agrees other (map (asked files) (if there then [] else up_to_first files names))
      → ((if here then Some name else find (contains_key other) names) ≡ (if there then Some name else find (contains_key files) names))
      × (map (asked other) (if here then [] else up_to_first other names) ≡ map (asked files)
      (if there then [] else up_to_first files names))
  found_by name names true true same later agrees = (refl, refl)
  found_by name names true false same later agrees = absurd cc
  found_by name names false true same later agrees = absurd cc
  found_by name names false false same later agrees = later agrees

  found_alike : (names : List (List ℕ)) → Agrees other (map (asked files) (up_to_first files names)) → AreFoundAlike names
  found_alike [] agrees = (refl, refl)
  found_alike (name ∷ names) agrees =
      let rest = found_by name names (contains_key files name) (contains_key other name) agrees.0 (found_alike names) agrees.1 in
      (rest.0, ap₂ (λ there later. (name, Presence there) ∷ later) (sym agrees.0) rest.1)

module _ (law : IsTheSameWhereAnswered) (files other : FileMap) (settings : Settings) where
  abbrev here : World
  here = (files, settings)

  abbrev there : World
  there = (other, settings)

  abbrev AreAlike : Finding → Finding → List Question → List Question → Type 0
  AreAlike found again questions more = (again ≡ found) × (more ≡ questions)

  makefile_alike : (flavors : Option (List (List ℕ))) (makefile : Option (List ℕ)) → Agrees other (questions_after here flavors makefile)
      → AreAlike (finding_of here flavors makefile) (finding_of there flavors makefile) (questions_after here flavors makefile)
      (questions_after there flavors makefile)
  makefile_alike flavors None agrees = (refl, refl)
  makefile_alike flavors (Some makefile) agrees =
      let same = law files other settings makefile flavors agrees in
      (ap (finding_of_evaluation makefile flavors) same.0, same.1)

  directory_alike : (directory : List ℕ) (flavors : Option (List (List ℕ))) → Agrees other (questions_in here directory flavors)
      → AreAlike (finding_in here directory flavors) (finding_in there directory flavors) (questions_in here directory flavors)
      (questions_in there directory flavors)
  directory_alike directory flavors agrees =
      let places = places_asked files settings.path directory in
      let after = questions_after here flavors (place here directory) in
      let found = found_alike files other (candidates settings.path directory) (Agrees-first other places after agrees) in
      let same = makefile_alike flavors (place here directory) (Agrees-rest other places after agrees) in (
        ap (finding_of there flavors) found.0 ∙ same.0,
        ap₂ (λ asked later. asked ++ later) found.1 (ap (questions_after there flavors) found.0 ∙ same.1),
      )

  named_alike : (path : Option PathValue) → Agrees other (questions_named here path)
      → AreAlike (finding_named here path) (finding_named there path) (questions_named here path) (questions_named there path)
  named_alike None agrees = (refl, refl)
  named_alike (Some path) agrees = directory_alike path.directory path.flavors agrees

  path_alike : (path : List ℕ) (own : Bool)
      → Agrees other (if own then questions_in here path None else questions_named here (path_if_one path))
      → AreAlike (if own then finding_in here path None else finding_named here (path_if_one path))
      (if own then finding_in there path None else finding_named there (path_if_one path))
      (if own then questions_in here path None else questions_named here (path_if_one path))
      (if own then questions_in there path None else questions_named there (path_if_one path))
  path_alike path true agrees = directory_alike path None agrees
  path_alike path false agrees = named_alike (path_if_one path) agrees

pub path_is_the_same : IsTheSameWhereAnswered → PathIsTheSameWhereAnswered
unfolding finding_at questions_at
path_is_the_same law files other settings path agrees = path_alike law files other settings path (bytes_eq path own_directory) agrees
