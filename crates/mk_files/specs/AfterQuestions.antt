-- Looking at a file.
use Rattle.std.specs.Prelude.{◌≡◌, ◌⊎◌, List, [], ◌∷◌, ◌++◌, ℕ}
use Rattle.std.proofs.Common.{ap, ◌∙◌, inl, inr}
use Rattle.std.specs.FinMap.{get}
use Rattle.mk_base.specs.declared.stops.Stop.{Stop}
use Rattle.mk_base.specs.declared.stops.Stop.TheVariants as stops
use Rattle.mk_paths.specs.declared.files.FilesFault.{FilesFault}
use Rattle.mk_paths.specs.declared.files.FilesFault.TheVariants as faults
use Rattle.mk_paths.specs.FilesView.{Contents, Question, FilesView, noted, failed, noted-twice, noted-nothing}

-- the view after a look at a file: the question and its answer are in the log, if one is kept
abbrev pub looked : FilesView → List ℕ → FilesView
looked world name = noted world ((name, Contents (get world.files name)) ∷ [])

-- a stop that isn't a fault of a makefile, but a failure that the files may have
abbrev pub IsPossibleFailure : {F : Type 0} → (FilesFault → Type 0) → Stop F → Type 0
IsPossibleFailure may (stops.Fault fault) = ⊥
IsPossibleFailure may (stops.Store refusal) = may (faults.Store refusal)
IsPossibleFailure may (stops.Memory refused) = may (faults.Memory refused)

-- What a question that stopped left of the files. If it was one too many, nothing was asked. Otherwise the
-- files failed, with a fault that they may give.
abbrev pub AsksAndStops : {F : Type 0} → (FilesFault → Type 0) → FilesView → FilesView → Stop F → Type 0
AsksAndStops may old new (stops.Fault fault) = new ≡ old
AsksAndStops may old new (stops.Store refusal) = may (faults.Store refusal) × (new ≡ failed old)
AsksAndStops may old new (stops.Memory refused) = may (faults.Memory refused) × (new ≡ failed old)

-- how work stops if the files failed with this fault
abbrev pub stop_of : {F : Type 0} → FilesFault → Stop F
stop_of (faults.Store refusal) = stops.Store refusal
stop_of (faults.Memory refused) = stops.Memory refused

-- the view after some questions, or none, that were answered: they are in the log with their answers,
-- if one is kept
pub record AfterQuestions (old new : FilesView) : Type 0 where
  pub questions : List Question
  pub in_log : new ≡ noted old questions

-- the view after such questions, and one that failed
pub record AfterFailedQuestion (old new : FilesView) : Type 0 where
  pub questions : List Question
  pub counted : new ≡ failed (noted old questions)

-- What work that may ask questions left of the files when it stopped. It stops at `Store` only if the
-- files failed with that. It stops at `Memory` if the files failed with that, or if there was no memory
-- for the work itself.
abbrev pub LeavesAtStop : {F : Type 0} → (FilesFault → Type 0) → FilesView → FilesView → Stop F → Type 0
LeavesAtStop may old new (stops.Fault fault) = AfterQuestions old new
LeavesAtStop may old new (stops.Store refusal) = may (faults.Store refusal) × AfterFailedQuestion old new
LeavesAtStop may old new (stops.Memory refused) = AfterQuestions old new ⊎ (may (faults.Memory refused) × AfterFailedQuestion old new)

-- a question that was answered
pub AfterQuestions-one : (old new : FilesView) (question : Question) → new ≡ noted old (question ∷ []) → AfterQuestions old new
AfterQuestions-one old new question is = record { questions = question ∷ []; in_log = is }

-- no question changes the files
pub AfterQuestions-files : (old new : FilesView) → AfterQuestions old new → new.files ≡ old.files
AfterQuestions-files old new asked = ap (λ world. world.files) asked.in_log

-- some questions, and then more
pub AfterQuestions-on : (old middle new : FilesView) → AfterQuestions old middle → AfterQuestions middle new → AfterQuestions old new
AfterQuestions-on old middle new first second = record {
  questions = first.questions ++ second.questions;
  in_log = second.in_log ∙ ap (λ world. noted world second.questions) first.in_log ∙ noted-twice old first.questions second.questions;
}

AfterFailedQuestion-on : (old middle new : FilesView) → AfterQuestions old middle → AfterFailedQuestion middle new
    → AfterFailedQuestion old new
AfterFailedQuestion-on old middle new first second = record {
  questions = first.questions ++ second.questions;
  counted =
      second.counted ∙ ap (λ world. failed (noted world second.questions)) first.in_log
      ∙ ap failed (noted-twice old first.questions second.questions);
}

-- some questions, and then work that stopped
pub LeavesAtStop-on : {F : Type 0} (may : FilesFault → Type 0) (old middle new : FilesView) (stop : Stop F)
    → AfterQuestions old middle → LeavesAtStop may middle new stop → LeavesAtStop may old new stop
LeavesAtStop-on may old middle new (stops.Fault fault) first second = AfterQuestions-on old middle new first second
LeavesAtStop-on may old middle new (stops.Store _) first second = (second.0, AfterFailedQuestion-on old middle new first second.1)
LeavesAtStop-on may old middle new (stops.Memory _) first second =
    elim second [
      | inl more ↦ inl (AfterQuestions-on old middle new first more)
      | inr failing ↦ inr
          (failing.0, AfterFailedQuestion-on old middle new first failing.1)
    ]

vain : (old new : FilesView) → new ≡ failed old → AfterFailedQuestion old new
vain old new is = record { questions = []; counted = is ∙ ap failed (noted-nothing old) }

-- one question that stopped
pub LeavesAtStop-one : {F : Type 0} (may : FilesFault → Type 0) (old new : FilesView) (stop : Stop F)
    → AsksAndStops may old new stop → LeavesAtStop may old new stop
LeavesAtStop-one may old new (stops.Fault fault) asks = record { questions = []; in_log = asks ∙ noted-nothing old }
LeavesAtStop-one may old new (stops.Store _) asks = (asks.0, vain old new asks.1)
LeavesAtStop-one may old new (stops.Memory _) asks = inr (asks.0, vain old new asks.1)
