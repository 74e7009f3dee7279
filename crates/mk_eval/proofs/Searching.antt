-- The search for a file in the trees of a search path.
use Rattle.std.proofs.Common.{◌≡◌, ◌<◌, ◌+◌, ◌∙◌, ℕ, List, ◌∷◌, map, drop, length, get_or, option_map, false, is_some, Option, Some, None}
use Rattle.std.proofs.Common.{Result, Ok, String, string_bytes, Global, refl, sym, ap}
use Rattle.std.proofs.lemmas.List.{drop_more}
use Rattle.mk_base.specs.declared.faults.FaultKind.{FaultKind}
use Rattle.mk_base.specs.Meter.{Meter}
use Rattle.mk_base.specs.Outcome.{after}
use Rattle.mk_paths.specs.FileName.{resolved, name_under}
use Rattle.mk_paths.specs.FilesView.{FilesView}
use Rattle.mk_files.specs.Questions.{Account, account}
use Rattle.mk_files.specs.AfterQuestions.{AfterQuestions, AfterQuestions-files}
use Rattle.mk_eval.specs.declared.state.EvalState.{EvalState}
use Rattle.mk_eval.specs.declared.includes.ExecutedFile.{ExecutedFile}
use Rattle.mk_eval.specs.declared.includes.Included.{Included}
use Rattle.mk_eval.specs.Includes.{Place, Opened, open_if_there}
use Rattle.mk_eval.specs.Modules.{names_in_trees, opened_or, open_first}
use Rattle.mk_eval.specs.Views.{place_of_file, included_file}

-- the search among the trees from this one on
abbrev pub from_tree : Place → List (String Global) → List ℕ → ℕ → EvalState → Account → Result (Opened × Account) (FaultKind × Account)
from_tree place trees file index state a = open_first place (names_in_trees (map string_bytes (drop index trees)) (Some file)) state a

-- the whole search ends as the search from this tree on
pub record FirstFrom (place : Place) (trees : List (String Global)) (file : List ℕ) (start : Meter) (first : FilesView) (index : ℕ)
    (m : Meter) (view : FilesView) : Type 0 where
  pub same : (state : EvalState) → from_tree place trees file 0 state (account start first) ≡ from_tree place trees file
      index state (account m view)

module _ (place : Place) (trees : List (String Global)) (file : List ℕ) (state : EvalState) (a : Account) where
  pub first-more : (index : ℕ) (tree : String Global) → index < length trees → tree ≡ get_or trees index tree
      → from_tree place trees file index state a
      ≡ after (open_if_there place state (resolved (name_under (string_bytes tree) file)) a)
      (opened_or (open_first place (names_in_trees (map string_bytes (drop (index + 1) trees)) (Some file))))
  first-more index tree within is =
      ap (λ left. open_first place (names_in_trees (map string_bytes left) (Some file)) state a) (drop_more trees index tree within
      ∙ ap (λ one. one ∷ drop (index + 1) trees) (sym is))

none-found : (found : Option Included) → is_some found ≡ false → found ≡ None
none-found None is = refl
none-found (Some file) is = cc

module _ (here : ExecutedFile) (trees : List (String Global)) (file : List ℕ) (start : Meter) (first view new : FilesView)
    (index : ℕ) (m m' : Meter) where
  -- a tree that doesn't have it
  pub first-on : FirstFrom (place_of_file here first.files) trees file start first index m view → AfterQuestions first view
      → (tree : String Global) → index < length trees → tree ≡ get_or trees index tree → (directory : List ℕ)
      → directory ≡ string_bytes tree → (found : Option Included) → is_some found ≡ false
      → ((state : EvalState) → open_if_there (place_of_file here view.files) state (resolved (name_under directory file)) (account m view) ≡
      Ok ((state, option_map included_file found), account m' new))
      → FirstFrom (place_of_file here first.files) trees file start first (index + 1) m' new
  first-on before asked tree within is directory named found none gives = record {
    same = λ state.
        let next = opened_or (open_first (place_of_file here first.files)
        (names_in_trees (map string_bytes (drop (index + 1) trees)) (Some file))) in
        before.same state
        ∙ first-more (place_of_file here first.files) trees file state (account m view) index tree within is
        ∙ ap (λ directory. after (open_if_there (place_of_file here first.files) state (resolved (name_under directory file))
        (account m view)) next) (sym named)
        ∙ ap (λ files. after (open_if_there (place_of_file here files) state (resolved (name_under directory file)) (account m view)) next)
        (sym (AfterQuestions-files first view asked))
        ∙ ap (λ r. after r next) (gives state)
        ∙ ap (λ found. after (let r : Result (Opened × Account) (FaultKind × Account) =
        Ok ((state, option_map included_file found), account m' new) in r) next) (none-found found none);
  }
