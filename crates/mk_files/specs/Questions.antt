-- Asking about files, and what it costs. Which questions are counted, and how many there may be, is this
-- project's choice.
use Rattle.std.specs.Prelude.{ℕ, Bool, List, [], ◌∷◌, ◌++◌, Option, option_map, Result, Ok, Err, IfOk, ◌≡◌}
use Rattle.std.specs.FinMap.{get, contains_key}
use Rattle.mk_base.specs.declared.faults.FaultKind.{FaultKind}
use Rattle.mk_base.specs.Meter.{Meter, question}
use Rattle.mk_base.specs.Outcome.{Work, ◌>>=◌}
use Rattle.mk_paths.specs.World.{FileMap}
use Rattle.mk_paths.specs.FilesView.{Reply, Presence, Contents, Question, FilesView, noted}
use Rattle.mk_base.specs.declared.stops.Stop.{Stop}
use Rattle.mk_base.specs.Stops.{Gives}

-- the account of work on a makefile among files: the meter of its budget, and the log of the questions
-- asked, if the files keep one
pub record Account : Type 0 where
  pub meter : Meter
  pub log : Option (List Question)

-- the account of a budget with this meter and of these files
abbrev pub account : Meter → FilesView → Account
account meter world = record { meter = meter; log = world.log }

-- the end of work that asked nothing: it leaves this log
abbrev pub beside : {A F : Type 0} → Option (List Question) → Result (A × Meter) (F × Meter) → Result (A × Account) (F × Account)
beside log (Ok end) = Ok (end.0, record { meter = end.1; log = log })
beside log (Err end) = Err (end.0, record { meter = end.1; log = log })

-- work over the meter alone, as work over the account: it asks nothing
abbrev pub quietly : {A F : Type 0} → Work Meter F A → Work Account F A
quietly work a = beside a.log (work a.meter)

-- an answer that the files gave: it is added to the log with its name, if there is a log
abbrev pub logged_answer : {A F : Type 0} → (A → Reply) → List ℕ → A → Work Account F A
logged_answer reply name answer a = Ok (answer, record a { log = option_map (λ log. log ++ (name, reply answer) ∷ []) a.log })

-- a look at whether the file of this name is there; it isn't counted
abbrev pub look_has : {F : Type 0} → FileMap → List ℕ → Work Account F Bool
look_has files name = logged_answer Presence name (contains_key files name)

-- a look at the content of the file of this name, if it is there; it isn't counted
abbrev pub look_read : {F : Type 0} → FileMap → List ℕ → Work Account F (Option (List ℕ))
look_read files name = logged_answer Contents name (get files name)

-- the question whether the file of this name is there: it is counted first, and if it is one too many,
-- nothing is asked
abbrev pub ask_has : FileMap → List ℕ → Work Account FaultKind Bool
ask_has files name = quietly question >>= λ _. look_has files name

-- the question for the content of the file of this name, if it is there, counted in the same way
abbrev pub ask_read : FileMap → List ℕ → Work Account FaultKind (Option (List ℕ))
ask_read files name = quietly question >>= λ _. look_read files name

-- a look tells whether the file of this name is there, whatever the meter has counted
abbrev pub LooksForFile : {K : Type 0} → Result Bool (Stop K) → FilesView → FilesView → List ℕ → Type 0
LooksForFile result old new name =
    (m : Meter) → Gives (λ there. there) result (account m new) (look_has old.files name (account m old))

-- a look gives the content of the file of this name, if it is there, whatever the meter has counted
abbrev pub LooksAtFile : {K : Type 0} → Result (Option (List ℕ)) (Stop K) → FilesView → FilesView → List ℕ → Type 0
LooksAtFile result old new name =
    (m : Meter) → Gives (λ content. content) result (account m new) (look_read old.files name (account m old))

-- a question tells whether the file of this name is there, if it isn't one too many
abbrev pub AsksForFile : {F : Type 0} → (F → FilesView) → List ℕ → Result Bool (Stop FaultKind) → Meter → F → Meter → F → Type 0
AsksForFile view name result old files new left =
    Gives (λ there. there) result (account new (view left)) (ask_has (view files).files name (account old (view files)))

-- a question gives the content of the file of this name, if it is there, and if the question isn't one too many
abbrev pub AsksContent : {F : Type 0} → (F → FilesView) → List ℕ
    → Result (Option (List ℕ)) (Stop FaultKind) → Meter → F → Meter → F → Type 0
AsksContent view name result old files new left =
    Gives (λ content. content) result (account new (view left)) (ask_read (view files).files name (account old (view files)))

-- where a question succeeds, its answer is in the log, if one is kept
abbrev pub NotesPresence : {F : Type 0} → Result Bool F → FilesView → FilesView → List ℕ → Type 0
NotesPresence result old new name = IfOk result (λ there. new ≡ noted old ((name, Presence there) ∷ []))
