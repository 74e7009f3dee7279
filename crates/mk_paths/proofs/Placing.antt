-- The search for a directory's makefile, one tree after another.
use Rattle.std.proofs.Common.{◌≡◌, ◌∙◌, sym, ap, refl, ℕ, Bool, true, false, cond, List, [], ◌∷◌, ◌++◌, map, Some, append_assoc}
use Rattle.std.specs.List.{find, cons_option}
use Rattle.std.specs.Result.{result_ok}
use Rattle.std.specs.FinMap.{contains_key}
use Rattle.mk_paths.specs.FileName.{resolved}
use Rattle.mk_paths.specs.World.{FileMap}
use Rattle.mk_paths.specs.FilesView.{Presence, Question, FilesView, Answers, noted, noted-twice, noted-nothing}
use Rattle.mk_paths.specs.Place.{makefile_in, candidates, place_among, up_to_first, places_asked}

-- the search has these trees before it: what was asked, and what is to be asked and found, are those of all trees
pub record IsUnderway (old now : FilesView) (trees all : List (List ℕ)) (directory : List ℕ) : Type 0 where
  pub asked : List Question
  pub state : now ≡ noted old asked
  pub rest : asked ++ places_asked old.files trees directory ≡ places_asked old.files all directory
  pub finds : place_among old.files trees directory ≡ place_among old.files all directory

pub begins : (old : FilesView) (all : List (List ℕ)) (directory : List ℕ) → IsUnderway old old all all directory
begins old all directory = record { asked = []; state = noted-nothing old; rest = refl; finds = refl }

-- the candidates of the trees, the first tree's first
module _ (files : FileMap) (tree : List ℕ) (trees : List (List ℕ)) (directory : List ℕ) where
  one_candidate : (name : List ℕ) → result_ok (resolved (makefile_in tree directory)) ≡ Some name → candidates (tree ∷ trees) directory ≡
      name ∷ candidates trees directory
  one_candidate name some = ap (λ o. cons_option o (candidates trees directory)) some

asked_of : FileMap → List (List ℕ) → List Question
asked_of files names = map (λ name. (name, Presence (contains_key files name))) (up_to_first files names)

-- an answer joins what was asked before
asked_next : (old now new : FilesView) (asked : List Question) (name : List ℕ) (there : Bool) → now ≡ noted old asked
    → Answers now new name (Presence there)
    → (there ≡ contains_key old.files name) × (new ≡ noted old (asked ++ (name, Presence there) ∷ []))
asked_next old now new asked name there state answer = (
  answer.0 ∙ ap (λ (world : FilesView). contains_key world.files name) state,
  answer.1 ∙ ap (λ world. noted world ((name, Presence there) ∷ [])) state ∙ noted-twice old asked ((name, Presence there) ∷ []),
)

-- what is asked, and found, from a name on
asked_from : (files : FileMap) (name : List ℕ) (names : List (List ℕ)) (there : Bool) → there ≡ contains_key files name
    → asked_of files (name ∷ names) ≡ (name, Presence there) ∷ asked_of files (cond there [] names)
unfolding asked_of
asked_from files name names true is = ap (λ b. (name, Presence b) ∷ map (λ n. (n, Presence (contains_key files n)))
    (cond b [] (up_to_first files names))) (sym is)
asked_from files name names false is = ap (λ b. (name, Presence b) ∷ map (λ n. (n, Presence (contains_key files n)))
    (cond b [] (up_to_first files names))) (sym is)

found_from : (files : FileMap) (name : List ℕ) (names : List (List ℕ)) (there : Bool) → there ≡ contains_key files name
    → find (contains_key files) (name ∷ names) ≡ cond there (Some name) (find (contains_key files) names)
found_from files name names there is = ap (λ b. cond b (Some name) (find (contains_key files) names)) (sym is)

pub misses : {old now new : FilesView} {all : List (List ℕ)} (tree : List ℕ) (trees : List (List ℕ)) (directory name : List ℕ)
    → result_ok (resolved (makefile_in tree directory)) ≡ Some name → Answers now new name (Presence false)
    → IsUnderway old now (tree ∷ trees) all directory → IsUnderway old new trees all directory
unfolding asked_of
misses {old} {now} {new} {all} tree trees directory name some answer h =
    let one = one_candidate old.files tree trees directory name some in
    let names = candidates trees directory in
    let next = asked_next old now new h.asked name false h.state answer in
    record {
      asked = h.asked ++ (name, Presence false) ∷ [];
      state = next.1;
      rest = append_assoc h.asked ((name, Presence false) ∷ []) (asked_of old.files names)
          ∙ ap (λ more. h.asked ++ more) (sym (ap (asked_of old.files) one ∙ asked_from old.files name names false next.0)) ∙ h.rest;
      finds = sym (ap (find (contains_key old.files)) one ∙ found_from old.files name names false next.0) ∙ h.finds;
    }
