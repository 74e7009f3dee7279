-- What a turn of a machine says, leaves and spends.
use Rattle.std.specs.Prelude.{◌≡◌, ◌≤◌, ◌<◌, ◌+◌, ◌⊎◌, ℕ, Bool, true, false}
use Rattle.std.specs.Prelude.{List, [], ◌++◌, Option, Result, Ok, Err, String}
use Rattle.std.specs.Borrow.{Bor}
use Rattle.std.specs.Global.{Global}
use Rattle.mk_base.specs.declared.stops.Stop.{Stop}
use Rattle.mk_base.specs.declared.stops.Stop.TheVariants as stops
use Rattle.mk_base.specs.declared.budget.TheConstants.{UNITS}
use Rattle.mk_base.specs.FaultAt.{FaultAt}
use Rattle.mk_base.specs.Meter.{full}
use Rattle.mk_base.specs.Outcome.{left}
use Rattle.mk_paths.specs.World.{FileMap, World}
use Rattle.mk_paths.specs.FilesView.{FilesView, Question, noted, view_world}
use Rattle.mk_paths.specs.declared.search_path.Settings.{Settings}
use Rattle.mk_paths.specs.declared.files.FilesFault.{FilesFault}
use Rattle.mk_paths.specs.declared.files.FilesFault.TheVariants as faults
use Rattle.mk_files.specs.Questions.{Account}
use Rattle.mk_files.specs.AfterQuestions.{LeavesAtStop, stop_of}
use Rattle.mk_eval.specs.Meaning.{means, questions_asked}
use Rattle.mk_eval.specs.Agreement.{questions_of, cost_of}
use Rattle.mk_eval.specs.Outcome.{Tells}
use Rattle.mk_eval.specs.Views.{flavors_in}
use Rattle.mk_eval.specs.declared.outcome.Evaluated.{Evaluated}
use Rattle.mk_eval.specs.declared.outcome.Failed.{Failed}
use Rattle.mk_eval.specs.declared.state.EvalState.{EvalState}
use Rattle.mk_step.specs.Machine.{Frame, advance}
use Rattle.mk_step.specs.Points.{Point, point_before, HasCome, GoesOn, StopsWith, EndsSo}
use Rattle.mk_step.specs.Views.{point_of}
use Rattle.mk_step.specs.declared.machine.Machine.{Machine}
use Rattle.mk_step.specs.declared.machine.Turned.{Turned}
use Rattle.mk_step.specs.declared.machine.Turned.TheVariants.{More, Done}

-- A machine is under way in the evaluation of the makefile of this name: what it has still to do ends as the
-- whole evaluation does, and so far it has asked these questions.
abbrev pub IsUnderWay : World → List ℕ → Option (List (List ℕ)) → List Question → Machine → Type 0
IsUnderWay world name flavors asked machine = HasCome world name flavors asked (point_of machine)

-- this holds of every evaluation among these files in which a machine is under way
abbrev pub ForEach : FileMap → Machine → (World → List ℕ → Option (List (List ℕ)) → List Question → Type 0)
    → Type 0
ForEach files machine fact =
    (settings : Settings) (name : List ℕ) (flavors : Option (List (List ℕ))) (asked : List Question)
    → IsUnderWay (files, settings) name flavors asked machine → fact (files, settings) name flavors asked

-- if it is done, the answer is this meaning
abbrev pub TellsIfDone : Result Turned FilesFault → Result Evaluated Failed → Type 0
TellsIfDone (Ok (More machine)) meaning = Unit {0}
TellsIfDone (Ok (Done answer)) meaning = meaning ≡ answer
TellsIfDone (Err fault) meaning = Unit {0}

-- The flavors that are given, as texts of the code.
abbrev pub Flavors : Type 0
Flavors = Option (Bor (List (String Global)))

-- an evaluation told what the makefile of this name means, among these files, with these settings and flavors
abbrev pub TellsMeaning : Result Evaluated (Stop Failed) → FilesView → Settings → List ℕ → Flavors → Type 0
TellsMeaning result view settings name flavors = Tells (λ x. x) result (means (view_world view settings) name (flavors_in flavors))

-- if it is done, the answer is that meaning
abbrev pub MeansIfDone : Result Turned FilesFault → FilesView → Settings → List ℕ → Flavors → Type 0
MeansIfDone result view settings name flavors = TellsIfDone result (means (view_world view settings) name (flavors_in flavors))

-- what that evaluation asks, in a budget of this many units
abbrev pub asked_in : FilesView → Settings → List ℕ → Flavors → ℕ → List Question
asked_in view settings name flavors = questions_asked (view_world view settings) name (flavors_in flavors)

-- if it is done, the answer is the meaning of each evaluation in which this machine was under way
abbrev pub TellsEach : FilesView → Machine → Result Turned FilesFault → Type 0
TellsEach view old result = ForEach view.files old (λ world name flavors asked. TellsIfDone result (means world name flavors))

-- in each evaluation in which a machine is under way, this many units are no more than it costs in all
abbrev pub IsWithinEach : Machine → ℕ → Type 0
IsWithinEach machine units =
    (files : FileMap) → ForEach files machine (λ world name flavors asked. units ≤ cost_of (means world name flavors))

-- more questions were asked and answered, and nothing else happened to the files
pub record AsksMore (old new : FilesView) (IsTrueOf : List Question → Type 0) : Type 0 where
  pub more : List Question
  pub so : IsTrueOf more
  pub noted : new ≡ noted old more

-- what a failure left of the files
abbrev pub LeavesAtFailure : (FilesFault → Type 0) → FilesView → FilesView → FilesFault → Type 0
LeavesAtFailure may old new fault = let stop : Stop FaultAt = stop_of fault in LeavesAtStop may old new stop

-- What is left of the files and of the evaluation. If it is done, all of its questions were asked. If it isn't,
-- the machine is under way in the same evaluation. If the files failed or memory ran out, nothing but questions was
-- asked.
abbrev pub Leaves : (FilesFault → Type 0) → FilesView → FilesView → World → List ℕ
    → Option (List (List ℕ)) → List Question → Result Turned FilesFault → Type 0
Leaves may old new world name flavors asked (Ok (More machine)) =
    AsksMore old new (λ more. IsUnderWay world name flavors (asked ++ more) machine)
Leaves may old new world name flavors asked (Ok (Done answer)) =
    AsksMore old new (λ more. questions_of world.0 world.1 name flavors ≡ asked ++ more)
Leaves may old new world name flavors asked (Err fault) = LeavesAtFailure may old new fault

-- what is left of the files and of an evaluation that has begun, of the makefile of this name with these flavors
abbrev pub StartsAmong : (FilesFault → Type 0) → FilesView → FilesView → Settings → List ℕ × Flavors
    → Result Turned FilesFault → Type 0
StartsAmong may old new settings what result =
    Leaves may old new (view_world old settings) what.0 (flavors_in what.1) [] result

-- what is left of the files and of each evaluation in which this machine was under way
abbrev pub LeavesEach : (FilesFault → Type 0) → FilesView → FilesView → Machine → Result Turned FilesFault → Type 0
LeavesEach may old new machine result =
    ForEach old.files machine (λ world name flavors asked. Leaves may old new world name flavors asked result)

-- an evaluation that has only begun has spent nothing, and isn't at its end, unless at a fault
abbrev pub IsNew : Result Turned FilesFault → Type 0
IsNew (Ok (More machine)) = machine.budget.spent ≡ 0
IsNew (Ok (Done (Ok evaluated))) = ⊥
IsNew (Ok (Done (Err failed))) = failed.cost ≡ 0
IsNew (Err fault) = Unit {0}

-- The last thing that was done after a beginning, once this much is spent in all. The evaluation came from the
-- beginning to where it was done, and had spent fewer units there than it was given since the beginning.
pub record IsLastDone (files : FileMap) (units : ℕ) (begin : Point) (spent : ℕ) : Type 0 where
  pub makefile : List ℕ
  pub frame : Frame
  pub others : List Frame
  pub state : EvalState
  pub account : Account
  pub asked : List Question
  pub comes : GoesOn files begin (point_before makefile frame others state account) asked
  pub low : account.meter.spent < begin.meter.spent + units
  pub leaves : (left (advance files makefile frame others state account)).meter.spent ≡ spent

-- Work that was given some units at a beginning stops once this much is spent in all. Nothing was spent since the
-- beginning, or fewer than the units were before the last thing that was done.
pub record StopsInTime (files : FileMap) (units : ℕ) (begin : Point) (spent : ℕ) : Type 0 where
  pub onward : begin.meter.spent ≤ spent
  pub last : (spent ≡ begin.meter.spent) ⊎ IsLastDone files units begin spent

-- What a turn spends that is given some units: if it isn't done, it has spent them. Whether it is done or not, it
-- stops in time.
abbrev pub Spends : FileMap → ℕ → Machine → Result Turned FilesFault → Type 0
Spends files units old (Ok (More machine)) =
    (old.budget.spent + units ≤ machine.budget.spent) × StopsInTime files units (point_of old) machine.budget.spent
Spends files units old (Ok (Done answer)) = StopsInTime files units (point_of old) (cost_of answer)
Spends files units old (Err fault) = Unit {0}

-- a stop after this many units, as what a turn leaves
abbrev pub stopped : Stop FaultAt → ℕ → Result Turned FilesFault
stopped (stops.Fault fault) cost = Ok (Done (Err (record { fault = fault; cost = cost })))
stopped (stops.Store refusal) cost = Err (faults.Store refusal)
stopped (stops.Memory refused) cost = Err (faults.Memory refused)

-- What a run of a machine did that was given some units, from one point to another. The answer is whether nothing is
-- to be done any more.
abbrev pub RunsOn : (FilesFault → Type 0) → FilesView → FilesView → Point → Point → ℕ
    → Result Bool (Stop FaultAt) → Type 0
RunsOn may old new start end units (Ok true) =
    (AsksMore old new (GoesOn old.files start end) × (end.frames ≡ []))
    × StopsInTime old.files units start end.meter.spent
RunsOn may old new start end units (Ok false) =
    (AsksMore old new (GoesOn old.files start end) × (start.meter.spent + units ≤ end.meter.spent))
    × StopsInTime old.files units start end.meter.spent
RunsOn may old new start end units (Err (stops.Fault fault)) =
    AsksMore old new (StopsWith old.files start fault end.meter) × StopsInTime old.files units start end.meter.spent
RunsOn may old new start end units (Err (stops.Store refusal)) = LeavesAtStop {F = FaultAt} may old new (stops.Store refusal)
RunsOn may old new start end units (Err (stops.Memory refused)) = LeavesAtStop {F = FaultAt} may old new (stops.Memory refused)

-- What the beginning of an evaluation did: the machine is at the first line, and nothing is spent; or the makefile isn't
-- there or can't be read.
abbrev pub BeginsMachine : (FilesFault → Type 0) → FilesView → FilesView → World → List ℕ → Option (List (List ℕ))
    → Result Machine (Stop FaultAt) → Type 0
BeginsMachine may old new world name flavors (Ok machine) =
    AsksMore old new (λ asked. IsUnderWay world name flavors asked machine) × (machine.budget ≡ full UNITS)
BeginsMachine may old new world name flavors (Err (stops.Fault fault)) =
    AsksMore old new (λ asked. EndsSo world name flavors asked (Err (fault, full UNITS)))
BeginsMachine may old new world name flavors (Err (stops.Store refusal)) = LeavesAtStop {F = FaultAt} may old new (stops.Store refusal)
BeginsMachine may old new world name flavors (Err (stops.Memory refused)) = LeavesAtStop {F = FaultAt} may old new (stops.Memory refused)

-- if it isn't done, it has spent this many units or more
abbrev pub HasSpent : ℕ → Result Turned FilesFault → Type 0
HasSpent units (Ok (More machine)) = units ≤ machine.budget.spent
HasSpent units (Ok (Done answer)) = Unit {0}
HasSpent units (Err fault) = Unit {0}

-- what was asked so far comes first among all questions of the evaluation
abbrev pub IsAskedFirst : Type 0
IsAskedFirst =
    (files : FileMap) (machine : Machine)
    → ForEach files machine
    (λ world name flavors asked. (more : List Question) × (questions_of world.0 world.1 name flavors ≡ asked ++ more))

-- and first among those of the evaluation in a budget of what was spent so far
abbrev pub IsAskedAsSpent : Type 0
IsAskedAsSpent =
    (files : FileMap) (machine : Machine)
    → ForEach files machine
    (λ world name flavors asked. (more : List Question) × (questions_asked world name flavors machine.budget.spent ≡ asked ++ more))
