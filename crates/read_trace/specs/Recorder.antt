-- Files that write down what they are asked.
use Rattle.std.specs.Prelude.{◌≡◌, ◌⊎◌, ℕ, List, Option, Some, None, Result, Ok, Err, OnOk, ◌∷◌, [], true, IfOk}
use Rattle.std.specs.Borrow.{Bor}
use Rattle.std.specs.Option.{option_copied}
use Rattle.mk_paths.specs.FilesView.{FilesView, Reply, Question, Answers, Fails, failed, noted, Contents}
use Rattle.mk_paths.specs.declared.files.FilesFault.{FilesFault}
use Rattle.mk_paths.specs.declared.files.Names.{Ghosts}
use Rattle.mk_paths.specs.declared.files.FilesFault.TheVariants.{Memory}
use Rattle.read_trace.specs.declared.recorder.Recorder.{Recorder}
use Rattle.refusals.specs.Refused.{refused}
use Rattle.mk_paths.specs.World.{FileMap}
use Rattle.read_trace.specs.Agreement.{has_reply}

-- the files of a view, seen by who writes down what it asks of them, after this trace and no failure
abbrev pub recording : FilesView → List Question → FilesView
recording view trace = record { files = view.files; log = Some trace; failures = 0 }

-- the view that a recorder is: the files that it asks, with its trace as the log
abbrev pub view_of : {F : Type 0} {names : Ghosts F} → (F → FilesView) → Recorder F names → FilesView
view_of view recorder = record {
  files = (view recorder.files).files;
  log = Some recorder.trace;
  failures = recorder.failures;
}

-- the log of that view
abbrev pub log_of : {F : Type 0} {names : Ghosts F} → (F → FilesView) → Recorder F names → Option (List Question)
log_of view recorder = (view_of view recorder).log

-- a view with this trace as its log
abbrev pub with_trace : FilesView → List Question → FilesView
with_trace view trace = record view { log = Some trace }

-- a recorder fails as the files that it asks may, or with Memory if there is none for its trace
abbrev pub MayFail : (FilesFault → Type 0) → FilesFault → Type 0
MayFail may fault = may fault ⊎ (fault ≡ Memory refused)

-- the files that a recorder asks, as they are seen
abbrev pub asked_files : {F : Type 0} {names : Ghosts F} → (F → FilesView) → Recorder F names → FilesView
asked_files view recorder = view recorder.files

-- Files are asked one question, exactly once, and their answer is given, or their fault. If they answered and there
-- is no memory for the trace, it is Memory.
abbrev pub AsksOnce : {A : Type 0} → (FilesFault → Type 0) → (A → Reply) → FilesView → FilesView → List ℕ → Result A FilesFault → Type 0
AsksOnce may reply old new name (Ok answer) = Answers old new name (reply answer)
AsksOnce {A = A} may reply old new name (Err fault) =
    (Fails old new × may fault) ⊎ (((answer : A) × Answers old new name (reply answer)) × (fault ≡ Memory refused))

-- What work leaves of files whose log it may take. Their map stays. If the work failed, it may be that they failed,
-- once.
abbrev pub LeavesMap : Option FilesFault → FilesView → FilesView → Type 0
LeavesMap None old new = (new.files ≡ old.files) × (new.failures ≡ old.failures)
LeavesMap (Some fault) old new = (new.files ≡ old.files) × ((new.failures ≡ old.failures) ⊎ (new.failures ≡ (failed old).failures))

-- where a function succeeds, a recorder has this question in its trace
abbrev pub NotesOne : {R E F : Type 0} {names : Ghosts F} → (F → FilesView)
    → Result R E → Recorder F names → Recorder F names → Question → Type 0
NotesOne view result old new question = OnOk result (view_of view new ≡ noted (view_of view old) (question ∷ []))

-- the same of the question for a file, with the content that is lent
abbrev pub NotesContent : {R E F : Type 0} {names : Ghosts F} → (F → FilesView)
    → Result R E → Recorder F names → Recorder F names → List ℕ → Option (Bor (List ℕ)) → Type 0
NotesContent view result old new name content = NotesOne view result old new (name, Contents (option_copied content))

-- these files have the content that is lent, or none if none is lent
abbrev pub HasContent : FileMap → List ℕ → Option (Bor (List ℕ)) → Type 0
HasContent files name content = has_reply files (name, Contents (option_copied content)) ≡ true

-- where a question succeeds, a recorder answered it as its files say
abbrev pub AnswersSeen : {A E F : Type 0} {names : Ghosts F} → (F → FilesView) → (A → Reply)
    → Result A E → Recorder F names → Recorder F names → List ℕ → Type 0
AnswersSeen view reply result old new name =
    IfOk result (λ answer. Answers (view_of view old) (view_of view new) name (reply answer))

-- the files of a recorder are asked once for it to answer
abbrev pub AsksFilesOnce : {A F : Type 0} (names : Ghosts F) → (A → Reply)
    → Recorder F names → Recorder F names → List ℕ → Result A FilesFault → Type 0
AsksFilesOnce names reply old new name result =
    AsksOnce names.fails_with reply (asked_files names.view old) (asked_files names.view new) name result
