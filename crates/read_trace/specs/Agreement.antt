-- Whether files answer as they did before.
use Rattle.std.specs.Prelude.{◌≡◌, ◌↔◌, ℕ, ◌+◌, Bool, true, false, if◌then◌else◌, List, [], ◌∷◌, map, take, Option, Some, None}
use Rattle.std.specs.Prelude.{Result, IfOk, OnOk}
use Rattle.std.specs.FinMap.{get, contains_key}
use Rattle.std.specs.Bool.{beq}
use Rattle.std.specs.Borrow.{Bor}
use Rattle.std.specs.Option.{option_copied}
use Rattle.std.specs.Str.{bytes_eq}
use Rattle.mk_paths.specs.World.{FileMap}
use Rattle.mk_paths.specs.FilesView.{Presence, Contents, Question, FilesView, noted}
use Rattle.mk_eval.specs.Agreement.{Agrees}

-- two contents with the same bytes, or both of no file
abbrev pub same_content : Option (List ℕ) → Option (List ℕ) → Bool
same_content None None = true
same_content None (Some bytes) = false
same_content (Some bytes) None = false
same_content (Some one) (Some other) = bytes_eq one other

-- the files give the reply to the question about this name
abbrev pub has_reply : FileMap → Question → Bool
has_reply files (name, Presence there) = beq (contains_key files name) there
has_reply files (name, Contents content) = same_content (get files name) content

-- one more reply is checked
abbrev pub one_more_checked : Bool × ℕ → Bool × ℕ
one_more_checked checked = (checked.0, checked.1 + 1)

-- Whether each question has the reply that is given with it, and how many replies are checked: all of
-- them, or those up to the first that differs.
abbrev pub agreement : FileMap → List Question → Bool × ℕ
agreement files [] = (true, 0)
agreement files (question ∷ questions) =
    if has_reply files question then one_more_checked (agreement files questions) else (false, 1)

-- each question has the reply that the files give
abbrev pub IsAnswered : FileMap → List Question → Type 0
IsAnswered files questions = (agreement files questions).0 ≡ true

-- so it is exactly if the files agree with each
abbrev pub AgreesWhereAnswered : Type 0
AgreesWhereAnswered = (files : FileMap) (questions : List Question) → IsAnswered files questions ↔ Agrees files questions

-- the question with the reply that the files give
abbrev pub asked_again : FileMap → Question → Question
asked_again files (name, Presence there) = (name, Presence (contains_key files name))
asked_again files (name, Contents content) = (name, Contents (get files name))

-- what is left of files of which so many questions were asked again
abbrev pub AsksAgain : FilesView → List Question → ℕ → FilesView → Type 0
AsksAgain old questions count new = new ≡ noted old (map (asked_again old.files) (take count questions))

-- where a function succeeds, it tells whether the files answer as these questions say, and how many it asked
abbrev pub TellsIfAnswered : {F : Type 0} → Result (Bool × ℕ) F → FileMap → List Question → Type 0
TellsIfAnswered result files questions = IfOk result (λ found. found ≡ agreement files questions)

-- where a function succeeds, it asked as many of these questions again as it tells
abbrev pub AsksUpTo : {F : Type 0} → Result (Bool × ℕ) F → FilesView → FilesView → List Question → Type 0
AsksUpTo result old new questions = IfOk result (λ found. AsksAgain old questions found.1 new)

-- where a function succeeds, it tells whether the files answer as this question says
abbrev pub TellsIfReplied : {F : Type 0} → Result Bool F → FileMap → Question → Type 0
TellsIfReplied result files question = IfOk result (λ same. same ≡ has_reply files question)

-- where a function succeeds, it asked this question again
abbrev pub AsksOneAgain : {R F : Type 0} → Result R F → FilesView → FilesView → Question → Type 0
AsksOneAgain result old new question = OnOk result (new ≡ noted old (asked_again old.files question ∷ []))

-- where a function succeeds, it made the question for a file, with the content that is lent
abbrev pub MakesQuestion : {F : Type 0} → Result Question F → List ℕ → Option (Bor (List ℕ)) → Type 0
MakesQuestion result name content = IfOk result (λ question. question ≡ (name, Contents (option_copied content)))
