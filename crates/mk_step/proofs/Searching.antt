-- The search for the next module among words.
use Rattle.std.proofs.Common.{◌≡◌, ◌<◌, ◌+◌, ◌∙◌, ℕ, Vec, true, false, is_some, List, ◌∷◌, map, drop, length, get_or, option_map, Option}
use Rattle.std.proofs.Common.{Some, None, Result, Ok, String, string_bytes, Global, refl, sym, ap}
use Rattle.std.proofs.lemmas.List.{drop_more}
use Rattle.mk_base.specs.FaultAt.{FaultAt}
use Rattle.mk_base.specs.Outcome.{after}
use Rattle.mk_paths.specs.FilesView.{FilesView}
use Rattle.mk_files.specs.Questions.{Account}
use Rattle.mk_files.specs.AfterQuestions.{AfterQuestions, AfterQuestions-files}
use Rattle.mk_eval.specs.declared.state.EvalState.{EvalState}
use Rattle.mk_eval.specs.declared.includes.ExecutedFile.{ExecutedFile}
use Rattle.mk_eval.specs.declared.includes.Included.{Included}
use Rattle.mk_eval.specs.Includes.{Place, Opened}
use Rattle.mk_eval.specs.Meaning.{blamed}
use Rattle.mk_eval.specs.Modules.{open_module}
use Rattle.mk_eval.specs.Views.{place_of_file, included_file}
use Rattle.mk_step.specs.Machine.{found_or, next_module}

abbrev pub Found : Type 0
Found = Result ((Opened × List (List ℕ)) × Account) (FaultAt × Account)

-- the search among the words from this one on
abbrev pub from_word : Place → ℕ → List (String Global) → EvalState → ℕ → Account → Found
from_word place line words s next a = next_module place line (map string_bytes (drop next words)) s a

module _ (place : Place) (line : ℕ) (words : List (String Global)) (s : EvalState) (a : Account) where
  -- what follows the search for one module
  abbrev pub later : ℕ → Opened → Account → Found
  later next = found_or (map string_bytes (drop (next + 1) words)) (next_module place line (map string_bytes (drop (next + 1) words)))

  pub word-first : (next : ℕ) (word : String Global) → next < length words → word ≡ get_or words next word
      → from_word place line words s next a ≡ after (blamed place line (open_module place s (string_bytes word)) a) (later next)
  word-first next word within is =
      ap (λ left. next_module place line (map string_bytes left) s a) (drop_more words next word within
      ∙ ap (λ one. one ∷ drop (next + 1) words) (sym is))

-- a module looked for among files that were only asked questions since
module _ (here : ExecutedFile) (line : ℕ) (words : List (String Global)) (s : EvalState) (first view : FilesView)
    (asked : AfterQuestions first view) (a : Account) where
  abbrev place_first : Place
  place_first = place_of_file here first.files

  pub word-at : (next : ℕ) (word : String Global) (text : List ℕ) → next < length words → word ≡ get_or words next word
      → text ≡ string_bytes word
      → from_word place_first line words s next a ≡ after
      (blamed (place_of_file here view.files) line (open_module (place_of_file here view.files) s text) a)
      (later place_first line words s a next)
  word-at next word text within is named =
      word-first place_first line words s a next word within is
      ∙ ap (λ text. after (blamed place_first line (open_module place_first s text) a) (later place_first line words s a next)) (sym named)
      ∙ ap (λ files. after (blamed (place_of_file here files) line (open_module (place_of_file here files) s text) a)
      (later place_first line words s a next)) (sym (AfterQuestions-files first view asked))

  -- it is there
  pub is-found : (next : ℕ) (found : Option Included) (b : Account) → true ≡ is_some found
      → after (let r : Result (Opened × Account) (FaultAt × Account) = Ok ((s, option_map included_file found), b) in r)
      (later place_first line words s a next) ≡ Ok (((s, option_map included_file found), map string_bytes (drop (next + 1) words)), b)
  is-found next None b some = cc
  is-found next (Some file) b some = refl

  -- it isn't
  pub is-missed : (next : ℕ) (found : Option Included) (b : Account) → false ≡ is_some found
      → after (let r : Result (Opened × Account) (FaultAt × Account) = Ok ((s, option_map included_file found), b) in r)
      (later place_first line words s a next) ≡ from_word place_first line words s (next + 1) b
  is-missed next None b none = refl
  is-missed next (Some file) b none = cc

-- the word that the code takes is the next one of those that were given
pub given-word : (words now : Vec (String Global) Global) (next : ℕ) (word : String Global) → now ≡ words
    → word ≡ get_or now.items next word → word ≡ get_or words.items next word
given-word words now next word same is = is ∙ ap (λ (words : Vec (String Global) Global). get_or words.items next word) same
