-- What paths lead to, as it is found, and what the files are asked for that.
use Rattle.std.specs.Prelude.{◌≡◌, ℕ, List, Option, String, Result, IfOk, OnOk}
use Rattle.std.specs.Borrow.{Bor}
use Rattle.std.specs.Global.{Global}
use Rattle.mk_paths.specs.FilesView.{FilesView, noted, view_world}
use Rattle.mk_paths.specs.declared.search_path.Settings.{Settings}
use Rattle.mk_eval.specs.Meaning.{means}
use Rattle.mk_eval.specs.Agreement.{questions_of}
use Rattle.mk_eval.specs.Views.{flavors_in}
use Rattle.mk_eval.specs.declared.outcome.Evaluated.{Evaluated}
use Rattle.mk_eval.specs.declared.outcome.Failed.{Failed}
use Rattle.port_index.specs.PathOutcomes as outcomes
use Rattle.port_index.specs.PathQuestions as asked
use Rattle.port_index.specs.Seen.{finding_seen}
use Rattle.port_index.specs.declared.path_outcomes.Finding.{Finding}

-- where a function succeeds, it found what a path leads to
abbrev pub FindsAt : {E : Type 0} → Result Finding E → FilesView → Settings → List ℕ → Type 0
FindsAt result files settings path = IfOk result (λ found. finding_seen found ≡ outcomes.finding_at (view_world files settings) path)

-- where a function succeeds, it asked the files what tells where a path leads, and nothing else
abbrev pub AsksAt : {A E : Type 0} → Result A E → (old new : FilesView) → Settings → List ℕ → Type 0
AsksAt result old new settings path = OnOk result (new ≡ noted old (asked.questions_at (view_world old settings) path))

-- where a function succeeds, it found what a directory leads to with these flavors, or with none given
abbrev pub FindsIn : {E : Type 0} → Result Finding E → FilesView → Settings → List ℕ → Option (Bor (List (String Global))) → Type 0
FindsIn result files settings directory flavors =
    IfOk result (λ found. finding_seen found
    ≡ outcomes.finding_in (view_world files settings) directory (flavors_in flavors))

-- where a function succeeds, it left in the log what tells where a directory leads with flavors, and nothing else
abbrev pub Logs : {F A E : Type 0} → (F → FilesView) → Result A E → (old new : F) → Settings → List ℕ
    → Option (Bor (List (String Global))) → Type 0
Logs view result old new settings directory flavors =
    OnOk result (view new ≡ noted (view old)
    (asked.questions_in (view_world (view old) settings) directory (flavors_in flavors)))

-- where a function succeeds, it found what a makefile describes with these flavors, or with none given
abbrev pub FindsBy : {E : Type 0} → Result Finding E → FilesView → Settings → List ℕ → Option (Bor (List (String Global))) → Type 0
FindsBy result files settings makefile flavors =
    IfOk result (λ found. finding_seen found
    ≡ outcomes.finding_of_evaluation makefile (flavors_in flavors)
    (means (view_world files settings) makefile (flavors_in flavors)))

-- where a function succeeds, it gives how the evaluation of a makefile ends with these flavors, or with none given
abbrev pub IfMeans : {E : Type 0} → Result (Result Evaluated Failed) E → FilesView → Settings → List ℕ
    → Option (Bor (List (String Global))) → Type 0
IfMeans result files settings makefile flavors =
    IfOk result (λ outcome. outcome ≡ means (view_world files settings) makefile (flavors_in flavors))

-- where a function succeeds, it asked the files what the evaluation of a makefile asks with flavors, and nothing else
abbrev pub Polls : {F A E : Type 0} → (F → FilesView) → Result A E → (old new : F) → Settings → List ℕ
    → Option (Bor (List (String Global))) → Type 0
Polls view result old new settings makefile flavors =
    OnOk result (view new ≡ noted (view old) (questions_of (view old).files settings makefile (flavors_in flavors)))
