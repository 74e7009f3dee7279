-- When what was learnt of a makefile in one world holds in another: if the other world gives the answers
-- that the first one gave.
use Rattle.std.specs.Prelude.{◌≡◌, ℕ, List, [], ◌∷◌, ◌++◌, Option, Result, Ok, Err}
use Rattle.mk_paths.specs.World.{FileMap}
use Rattle.mk_paths.specs.FilesView.{Question, IsReply}
use Rattle.mk_paths.specs.declared.search_path.Settings.{Settings}
use Rattle.mk_eval.specs.declared.outcome.Evaluated.{Evaluated}
use Rattle.mk_eval.specs.declared.outcome.Failed.{Failed}
use Rattle.mk_eval.specs.Meaning.{means, questions_asked}

-- among these files, each question has the answer that is given with it, even if that says that a
-- file isn't there
abbrev pub Agrees : FileMap → List Question → Type 0
Agrees files [] = Unit {0}
Agrees files (question ∷ questions) = IsReply files question.0 question.1 × Agrees files questions

-- the files agree with the first of some questions
pub Agrees-first : (files : FileMap) (first rest : List Question) → Agrees files (first ++ rest) → Agrees files first
Agrees-first files [] rest agrees = tt
Agrees-first files (one ∷ first) rest agrees = (agrees.0, Agrees-first files first rest agrees.1)

-- and with the rest of them
pub Agrees-rest : (files : FileMap) (first rest : List Question) → Agrees files (first ++ rest) → Agrees files rest
Agrees-rest files [] rest agrees = agrees
Agrees-rest files (one ∷ first) rest agrees = Agrees-rest files first rest agrees.1

-- what an evaluation cost, in units
abbrev pub cost_of : Result Evaluated Failed → ℕ
cost_of (Ok evaluated) = evaluated.cost
cost_of (Err failed) = failed.cost

-- what an evaluation asks, in a budget of what it costs
abbrev pub questions_of : FileMap → Settings → List ℕ → Option (List (List ℕ)) → List Question
questions_of files settings name flavors = questions_asked (files, settings) name flavors (cost_of (means (files, settings) name flavors))

-- Take any world with the same settings that gives the answers that an evaluation got. In it that makefile
-- means the same: kind, variables and cost, or the fault with its place and the cost. The world is asked the
-- same too, whatever branches weren't taken.
abbrev pub IsTheSameWhereAnswered : Type 0
IsTheSameWhereAnswered =
    (files other : FileMap) (settings : Settings) (name : List ℕ) (flavors : Option (List (List ℕ)))
    → Agrees other (questions_of files settings name flavors)
    → (means (other, settings) name flavors ≡ means (files, settings) name flavors)
    × (questions_of other settings name flavors ≡ questions_of files settings name flavors)
