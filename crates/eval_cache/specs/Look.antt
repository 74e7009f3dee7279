-- A look at what is kept under a key.
use Rattle.std.specs.Prelude.{◌≡◌, ◌≤◌, ℕ, ◌+◌, Bool, true, false, if◌then◌else◌, List, [], ◌∷◌, ◌++◌, map, take}
use Rattle.mk_paths.specs.World.{FileMap}
use Rattle.mk_paths.specs.FilesView.{Question, FilesView, noted}
use Rattle.mk_paths.specs.declared.files.FilesFault.{FilesFault}
use Rattle.mk_files.specs.AfterQuestions.{LeavesAtStop, stop_of}
use Rattle.mk_eval.specs.Agreement.{cost_of}
use Rattle.read_trace.specs.Agreement.{agreement, asked_again, IsAnswered}
use Rattle.read_trace.specs.declared.evaluation.Evaluation.{Evaluation}
use Rattle.eval_cache.specs.Keys.{Key}
use Rattle.eval_cache.specs.Right.{evaluation_of}
use Rattle.eval_cache.specs.declared.look.Look.{Look}
use Rattle.eval_cache.specs.declared.look.Look.TheVariants.{Hit, Miss}

-- after so many more answers were checked
abbrev pub after_more_checks : ℕ → Bool × ℕ → Bool × ℕ
after_more_checks count checked = (checked.0, count + checked.1)

-- Whether the answers of one of these traces are those of the files, and how many answers are checked for
-- that. The traces are tried in order up to the first that agrees, each up to its first answer that differs.
abbrev pub agreeing : FileMap → List (List Question) → Bool × ℕ
agreeing files [] = (false, 0)
agreeing files (trace ∷ traces) =
    if (agreement files trace).0 then agreement files trace else after_more_checks (agreement files trace).1 (agreeing files traces)

-- the questions of a trace that are asked again to check its answers, with the answers of the files
abbrev pub checked_in : FileMap → List Question → List Question
checked_in files trace = map (asked_again files) (take (agreement files trace).1 trace)

-- the same of these traces
abbrev pub checked_among : FileMap → List (List Question) → List Question
checked_among files [] = []
checked_among files (trace ∷ traces) =
    checked_in files trace ++ (if (agreement files trace).0 then [] else checked_among files traces)

-- The evaluation is that of the key among these files, and they answer each of its questions as its trace says. At
-- least one answer was checked for that.
pub record IsAgreed (files : FileMap) (key : Key) (checked : ℕ) (evaluation : Evaluation) : Type 0 where
  pub same : evaluation ≡ evaluation_of files key
  pub answered : IsAnswered files evaluation.trace
  pub some : 1 ≤ checked

-- A look at these traces, of the evaluations kept under this key, found this among the files, after so many answers
-- were checked. It is a hit exactly where a trace agrees. Then it is what the key's makefile means, at its cost.
abbrev pub IsFound : FileMap → Key → List (List Question) → ℕ → Look → Type 0
IsFound files key traces checked (Hit evaluation cost) =
    ((agreeing files traces).0 ≡ true) × IsAgreed files key checked evaluation.value
    × (cost ≡ cost_of (evaluation_of files key).outcome)
IsFound files key traces checked Miss = (agreeing files traces).0 ≡ false

-- what it left of the files
abbrev pub ChecksAmong : FilesView → List (List Question) → FilesView → Type 0
ChecksAmong old traces new = new ≡ noted old (checked_among old.files traces)

-- What it left of them if it failed: some questions were asked again. If the fault is `Store`, the files failed with
-- that. If it is `Memory`, they failed with that, or no more can share what was found.
abbrev pub FailsAmong : (FilesFault → Type 0) → FilesView → FilesView → FilesFault → Type 0
FailsAmong may old new fault = LeavesAtStop {F = Unit {0}} may old new (stop_of fault)
