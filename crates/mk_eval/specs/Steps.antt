-- What the code's steps through a makefile are, among files.
use Rattle.std.specs.Prelude.{◌≡◌, ◌≢◌, ◌<◌, ℕ, suc, zero, Bool, List, map, Option, Some, None, option_map, Result, IfOk}
use Rattle.std.specs.Prelude.{String, string_bytes, Vec, slice_get}
use Rattle.std.specs.Global.{Global}
use Rattle.std.specs.declared.rc.Rc.{Rc}
use Rattle.mk_base.specs.declared.faults.FaultKind.{FaultKind}
use Rattle.mk_base.specs.declared.stops.PureStop.{PureStop}
use Rattle.mk_base.specs.declared.stops.Stop.{Stop}
use Rattle.mk_base.specs.FaultAt.{FaultAt}
use Rattle.mk_base.specs.Meter.{Meter, pay}
use Rattle.mk_base.specs.Outcome.{Work, tell}
use Rattle.mk_base.specs.Stops.{Gives, GivesPurely}
use Rattle.mk_text.specs.Lines.{LogicalLine}
use Rattle.mk_env.specs.Texts.{Variables}
use Rattle.mk_loop.specs.declared.iterations.Iteration.{Iteration}
use Rattle.mk_loop.specs.declared.iterations.Iterations.{Iterations}
use Rattle.mk_loop.specs.LoopWords.{LoopWords}
use Rattle.mk_loop.specs.Scopes.{iterations_in}
use Rattle.mk_paths.specs.World.{FileMap}
use Rattle.mk_paths.specs.FilesView.{FilesView}
use Rattle.mk_files.specs.Questions.{Account, account}
use Rattle.mk_eval.specs.Lines as lines
use Rattle.mk_eval.specs.Lines.{Request, inside_iteration}
use Rattle.mk_eval.specs.Heads as heads
use Rattle.mk_eval.specs.Includes.{Opened}
use Rattle.mk_eval.specs.Modules as modules
use Rattle.mk_eval.specs.Execution.{LineWorks}
use Rattle.mk_eval.specs.Meaning as meaning
use Rattle.mk_eval.specs.Meaning.{Entering, works_at, nothing_entered, file_meaning}
use Rattle.mk_eval.specs.Views.{loops_of, place_of_file, included_file}
use Rattle.mk_eval.specs.declared.includes.ExecutedFile.{ExecutedFile}
use Rattle.mk_eval.specs.declared.includes.ExecutedLine.{ExecutedLine}
use Rattle.mk_eval.specs.declared.includes.Included.{Included}
use Rattle.mk_eval.specs.declared.state.EvalState.{EvalState}

-- what an included file does, if files may still include one another this many levels deep
abbrev pub entering_at : FileMap → List ℕ → ℕ → Entering
entering_at files makefile zero = nothing_entered
entering_at files makefile (suc levels) = file_meaning files makefile levels

-- what the lines of an executed file do
abbrev pub works_of : ExecutedFile → FileMap → LineWorks Account FaultAt EvalState
works_of here files = works_at (entering_at files here.makefile.now here.levels) (place_of_file here files)

-- at least one unit was spent, and there was one to spend
abbrev pub Pays : Meter → Meter → Type 0
Pays old new = (old.spent < new.spent) × (old.spent < old.limit)

-- a file is opened only if one more may be included, and if a unit was spent
abbrev pub PaysToOpen : {A : Type 0} → ℕ → Meter → Meter → Option A → Type 0
PaysToOpen levels old new None = Unit {0}
PaysToOpen levels old new (Some file) = (levels ≢ 0) × Pays old new

-- a line asks for a file only if a unit was spent
abbrev pub Requests : {A : Type 0} → Meter → Meter → Option A → Type 0
Requests old new None = Unit {0}
Requests old new (Some file) = Pays old new

-- a file may be opened only if one more may be included
abbrev pub MayOpen : {A : Type 0} → ℕ → Option A → Type 0
MayOpen levels None = Unit {0}
MayOpen levels (Some file) = levels ≢ 0

-- a line with this text, in these loops, does to variables and a budget what the definition says
abbrev pub Performs : List Iteration → List ℕ → Variables × Meter → Variables × Meter
    → Result (Option Request) (PureStop FaultKind) → Type 0
Performs loops text old new result =
    GivesPurely (λ request. (new.0, request)) result new.1 (lines.perform old.0 (loops_of loops) text old.1)

-- the iterations are given of the loop that a line of an executed file begins, from one budget to the next
abbrev pub LoopAt : ExecutedFile → LogicalLine → EvalState → Result (Rc Iterations Global) (PureStop FaultAt)
    → Meter → Meter → Type 0
LoopAt here line state result old new =
    GivesPurely (λ iterations. iterations_in iterations.value) result new
    (tell (meaning.at here.file.now line.line) (heads.iterations state.variables (loops_of here.loops.now) line.text old))

-- a unit is spent at a line of an executed file, or that is a fault there
abbrev pub PaysAt : {R : Type 0} → ExecutedLine → Result R (PureStop FaultAt) → Meter → Meter → Type 0
PaysAt line result old new = GivesPurely (λ _. tt) result new (tell (meaning.at line.here.file.now line.number) (pay old))

-- if a function succeeds, it gives these loops with one more inside them, at its iteration with this index
abbrev pub GoesInside : {F : Type 0} → List Iteration → Iterations → ℕ → Result (Vec Iteration Global) F → Type 0
GoesInside loops iterations index result =
    IfOk result
    (λ inner. (words : LoopWords) × (slice_get (iterations_in iterations) index ≡ Some words)
    × (loops_of inner.items ≡ inside_iteration (loops_of loops) words))

-- whether a condition holds is told as this work tells it, among the files, from one budget and files to the next
abbrev pub Judges : {F : Type 0} → (FileMap → Work Account F Bool) → Result Bool (Stop F)
    → Meter × FilesView → Meter × FilesView → Type 0
Judges work result old new = Gives (λ held. held) result (account new.0 new.1) (work old.1.files (account old.0 old.1))

-- the condition of a line of an executed file
abbrev pub condition_at : ExecutedFile → LogicalLine → EvalState → FileMap → Work Account FaultAt Bool
condition_at here line state files = (works_of here files).holds (loops_of here.loops.now) line state

-- the file that a line opens, if it opens one, for the state before it, among files
abbrev pub Opening : Type 0 → Type 0
Opening F = FileMap → EvalState → Work Account F Opened

-- that file is opened, from the first state to the second, and from one budget and files to the next
abbrev pub OpensFile : {F : Type 0} → Opening F → EvalState × EvalState → Result (Option Included) (Stop F)
    → Meter × FilesView → Meter × FilesView → Type 0
OpensFile opening states result old new =
    Gives (λ included. (states.1, option_map included_file included)) result (account new.0 new.1)
    (opening old.1.files states.0 (account old.0 old.1))

-- the module of a word, at a line of an executed file
abbrev pub module_at : ExecutedLine → List ℕ → Opening FaultAt
module_at line word files state =
    meaning.blamed (place_of_file line.here files) line.number
    (modules.open_module (place_of_file line.here files) state word)

-- what a line of an executed file opens, after it has done what it does by itself
abbrev pub line_file : ExecutedFile → LogicalLine → Opening FaultAt
line_file here line files state =
    meaning.blamed_at (place_of_file here files) line
    (meaning.open_line (place_of_file here files) (loops_of here.loops.now) line state)

-- words are given as this work gives them, from one budget to the next
abbrev pub GivesWords : {F : Type 0} → Result (Vec (String Global) Global) (PureStop F) → Work Meter F (List (List ℕ))
    → Meter → Meter → Type 0
GivesWords result work old new = GivesPurely (λ words. map string_bytes words.items) result new (work old)

-- the words of MODULES, at a line of an executed file
abbrev pub words_at : ExecutedLine → EvalState → Work Meter FaultAt (List (List ℕ))
words_at line state m = tell (meaning.at line.here.file.now line.number) (modules.module_words state.variables m)
