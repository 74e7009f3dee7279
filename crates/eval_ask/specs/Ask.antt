-- One evaluation that is asked for, with a cache.
use Rattle.std.specs.Prelude.{◌≡◌, ◌≤◌, ◌<◌, ◌⊎◌, ℕ, ◌+◌, ◌-◌, Bool, true, false, if◌then◌else◌, List, Option, Some, None}
use Rattle.std.specs.Prelude.{Result}
use Rattle.std.specs.Result.{result_err}
use Rattle.mk_base.specs.declared.budget.TheConstants.{UNITS}
use Rattle.mk_base.specs.Outcome.{left}
use Rattle.turn_amounts.specs.declared.TheConstants.{MOST_CHECKS}
use Rattle.mk_paths.specs.World.{FileMap, World, files_in}
use Rattle.mk_paths.specs.FilesView.{FilesView, Question}
use Rattle.mk_paths.specs.declared.files.FilesFault.{FilesFault}
use Rattle.mk_paths.specs.declared.files.Names.{Ghosts}
use Rattle.mk_files.specs.Questions.{Account}
use Rattle.mk_eval.specs.Agreement.{cost_of, Agrees}
use Rattle.mk_eval.specs.declared.state.EvalState.{EvalState}
use Rattle.mk_step.specs.Machine.{Frame, advance}
use Rattle.mk_step.specs.Points.{HasCome, point_before}
use Rattle.mk_step.specs.Turn.{IsUnderWay, StopsInTime}
use Rattle.mk_step.specs.Views.{point_of}
use Rattle.mk_step.specs.declared.machine.Turned.{Turned}
use Rattle.mk_step.specs.declared.machine.Turned.TheVariants as turned
use Rattle.read_trace.specs.Recorder.{LeavesMap, view_of}
use Rattle.read_trace.specs.declared.recorder.Recorder.{Recorder}
use Rattle.eval_cache.specs.Cache.{CacheValue, traces_at, one_more}
use Rattle.eval_cache.specs.Keys.{Key, key_of}
use Rattle.eval_cache.specs.Look.{agreeing}
use Rattle.eval_cache.specs.Right.{evaluation_of, IsRight}
use Rattle.port_index.specs.Pairs.{Pair}
use Rattle.turn_amounts.specs.Spent.{IsUpFrom, no_spending, total_of}
use Rattle.port_index.specs.Spent.{SpendsOnOne, evaluation_cost}
use Rattle.turn_amounts.specs.declared.spent.Spent.{Spent}
use Rattle.eval_ask.specs.declared.ask.Ask.{Ask}
use Rattle.eval_ask.specs.declared.ask.Looked.{Looked}
use Rattle.eval_ask.specs.declared.ask.Asked.{Asked}
use Rattle.eval_ask.specs.declared.ask.AskTurned.{AskTurned}
use Rattle.eval_ask.specs.declared.ask.AskTurned.TheVariants.{More, Done}

-- the files answer as one of the traces says that a cache holds under this key
abbrev pub is_held : FileMap → CacheValue → Key → Bool
is_held files cache key = (agreeing files (traces_at cache key)).0

-- What was asked for is the evaluation of the key, and each of its questions has the answer that the files give. A new
-- one takes the units that it costs, and one that is held none. So many answers were checked of traces that are held:
-- at most as many as a look checks, and at least one if an evaluation is held.
pub record IsAskedOf (files : FileMap) (cache : CacheValue) (key : Key) (asked : Asked) : Type 0 where
  pub evaluation : asked.evaluation.value ≡ evaluation_of files key
  pub answered : Agrees files asked.evaluation.value.trace
  pub units : asked.units ≡ (if is_held files cache key then 0 else cost_of (evaluation_of files key).outcome)
  pub checks : asked.checks ≡ (agreeing files (traces_at cache key)).1
  pub few : asked.checks ≤ MOST_CHECKS
  pub some : is_held files cache key ≡ true → 1 ≤ asked.checks

-- the key of an evaluation that is asked for
abbrev pub key_in : Ask → Key
key_in ask = key_of ask.looked.key

-- what was spent on it so far
abbrev pub spent_so_far : Ask → Spent
spent_so_far ask = record { units = ask.machine.budget.spent; checks = ask.looked.checks }

-- An evaluation that is asked for is under way among these files, has asked what its trace says, and was answered so.
-- No more answers were checked before it began than a look checks.
pub record IsAskIn (files : FileMap) (ask : Ask) : Type 0 where
  pub under : IsUnderWay (files, (key_in ask).settings) (key_in ask).name (key_in ask).flavors ask.trace ask.machine
  pub answered : Agrees files ask.trace
  pub few : ask.looked.checks ≤ MOST_CHECKS

-- It begins: it is asked for, since nothing that is held agrees with the files, and no unit is spent; or it is there.
abbrev pub BeginsAsk : FileMap → CacheValue → Key → AskTurned → Type 0
BeginsAsk files cache key (More ask) =
    (key_in ask ≡ key) × IsAskIn files ask × (is_held files cache key ≡ false)
    × (spent_so_far ask ≡ record { units = 0; checks = (agreeing files (traces_at cache key)).1 })
BeginsAsk files cache key (Done asked) = IsAskedOf files cache key asked

-- What was asked for is the evaluation of the key, at all of its cost, and each of its questions has the answer that the
-- files give.
pub record EndsAsk (files : FileMap) (ask : Ask) (asked : Asked) : Type 0 where
  pub evaluation : asked.evaluation.value ≡ evaluation_of files (key_in ask)
  pub answered : Agrees files asked.evaluation.value.trace
  pub units : asked.units ≡ cost_of (evaluation_of files (key_in ask)).outcome
  pub checks : asked.checks ≡ ask.looked.checks

-- A turn that is given some units goes on with the same evaluation and has spent them, or is at its end. Before the
-- last thing that was done, fewer were spent.
abbrev pub TurnsAsk : FileMap → ℕ → Ask → AskTurned → Type 0
TurnsAsk files units old (More new) =
    (new.looked ≡ old.looked) × IsAskIn files new
    × (old.machine.budget.spent + units ≤ new.machine.budget.spent)
    × StopsInTime files units (point_of old.machine) new.machine.budget.spent
TurnsAsk files units old (Done asked) =
    EndsAsk files old asked × StopsInTime files units (point_of old.machine) asked.units

-- An evaluation of this key is at its end. It is the one that the key has among these files, and each of its questions
-- has the answer that the files give. It took all of its units; or none were spent on lines, and some answer was checked.
pub record IsAnswerTo (files : FileMap) (key : Key) (asked : Asked) : Type 0 where
  pub evaluation : asked.evaluation.value ≡ evaluation_of files key
  pub answered : Agrees files asked.evaluation.value.trace
  pub few : asked.checks ≤ MOST_CHECKS
  pub whole : 1 ≤ asked.units → asked.units ≡ cost_of (evaluation_of files key).outcome
  pub unchecked : asked.checks ≡ 0 → asked.units ≡ cost_of (evaluation_of files key).outcome

-- what an evaluation of this key has come to: it is under way, or at its end
abbrev pub HasComeTo : FileMap → Key → AskTurned → Type 0
HasComeTo files key (More ask) = (key_in ask ≡ key) × IsAskIn files ask
HasComeTo files key (Done asked) = IsAnswerTo files key asked

-- an evaluation that isn't at its end is under way among these files
abbrev pub IsAskUnderWay : FileMap → AskTurned → Type 0
IsAskUnderWay files (More ask) = IsAskIn files ask
IsAskUnderWay files (Done asked) = Unit {0}

-- an evaluation has come so far among these files
pub record HasBegun (files : FileMap) (ask : AskTurned) : Type 0 where
  pub key : Key
  pub come : HasComeTo files key ask

-- what was spent on an evaluation so far
abbrev pub spent_in : AskTurned → Spent
spent_in (More ask) = spent_so_far ask
spent_in (Done asked) = record { units = asked.units; checks = asked.checks }

-- An evaluation of which no more was done in a turn than a look at what is kept: so much was spent before.
pub record HasLooked (before : Spent) (came : AskTurned) : Type 0 where
  pub units : (spent_in came).units ≡ before.units
  pub checks : (spent_in came).checks ≤ before.checks + MOST_CHECKS

-- A turn that is given some units spends at most as many more as one evaluation, record or value may cost.
abbrev pub IsShort : ℕ → Spent → Spent → Type 0
IsShort units before after = total_of after ≤ total_of before + (units + UNITS)

-- and this much more was spent, units and checks together
abbrev pub IsUpBy : ℕ → Spent → Spent → Type 0
IsUpBy units before after =
    IsUpFrom before after × ((before.units + before.checks) + units ≤ after.units + after.checks)

-- an evaluation that isn't at its end after a turn has spent the units of the turn
abbrev pub SpendsTurn : ℕ → Spent → AskTurned → Type 0
SpendsTurn units before (More ask) = IsUpBy units before (spent_so_far ask)
SpendsTurn units before (Done asked) = Unit {0}

-- The last thing that was done for an evaluation, after which so much is spent on it. The evaluation came to where it was
-- done, and had spent fewer units there than a turn was given, before which so much was spent.
pub record IsLastThing (world : World) (pair : Pair) (units before after : ℕ) : Type 0 where
  pub makefile : List ℕ
  pub frame : Frame
  pub others : List Frame
  pub state : EvalState
  pub account : Account
  pub asked : List Question
  pub comes : HasCome world pair.makefile pair.flavors asked (point_before makefile frame others state account)
  pub since : before ≤ account.meter.spent
  pub low : account.meter.spent < before + units
  pub leaves : (left (advance (files_in world) makefile frame others state account)).meter.spent ≡ after

-- The evaluation of a makefile, if it is there, stops in time in a turn that is given some units. Each answer that is
-- checked in the turn is one of them. Nothing of it is done, or fewer were spent before the last thing that is done.
abbrev pub EvaluatesInTime : World → Option Pair → ℕ → Spent → Spent → Type 0
EvaluatesInTime world None units before after = ⊥
EvaluatesInTime world (Some pair) units before after =
    (after.units ≡ before.units) ⊎ IsLastThing world pair (units - (after.checks - before.checks)) before.units after.units

-- What costs so many units, and rests on this makefile if it is there, is made in time in a turn that is given some units.
-- Nothing is spent in the turn, or fewer than its units were spent before that was made of the evaluation.
abbrev pub MakesInTime : World → ℕ → Option Pair → ℕ → Spent → Spent → Type 0
MakesInTime world cost pair units before after =
    (after ≡ before) ⊎ (total_of after < (total_of before + units) + (cost - evaluation_cost world pair))

-- An evaluation that was under way has told all that it costs once it is at its end. One that was at its end stays as it
-- was told: if it was kept, with none of its cost.
abbrev pub TellsWhole : AskTurned → AskTurned → Type 0
TellsWhole (More old) (More new) = Unit {0}
TellsWhole (More old) (Done asked) = asked.units ≡ cost_of asked.evaluation.value.outcome
TellsWhole (Done asked) came = came ≡ Done asked

-- the makefile of a key, with its flavors
abbrev pub pair_for : Key → Pair
pair_for key = record { makefile = key.name; flavors = key.flavors }

-- A turn of an evaluation that was given some units. It has come to the same evaluation, checks no answer, takes back
-- nothing of what was spent, and isn't at its end only if it spent its units. It stops in time, and tells what it costs.
pub record AsksOn (files : FileMap) (units : ℕ) (before came : AskTurned) : Type 0 where
  pub comes : (key : Key) → HasComeTo files key before → HasComeTo files key came
  pub up : IsUpFrom (spent_in before) (spent_in came)
  pub unchecked : (spent_in came).checks ≡ (spent_in before).checks
  pub enough : SpendsTurn units (spent_in before) came
  pub in_time : (key : Key) → HasComeTo files key before
      → EvaluatesInTime (files, key.settings) (Some (pair_for key)) units (spent_in before) (spent_in came)
  pub whole : TellsWhole before came

-- if a machine is done, its answer is right for the key, with what was asked
abbrev pub EndsRight : Key → List Question → Turned → Type 0
EndsRight key trace (turned.More machine) = Unit {0}
EndsRight key trace (turned.Done outcome) = IsRight key (record { outcome = outcome; trace = trace })

-- what is made of a turn of a machine, after a look and all that was asked
abbrev pub ComesTo : Looked → List Question → Turned → AskTurned → Type 0
ComesTo looked trace (turned.More machine) came =
    came ≡ More (record { looked = looked; trace = trace; machine = machine })
ComesTo looked trace (turned.Done outcome) (More ask) = ⊥
ComesTo looked trace (turned.Done outcome) (Done asked) =
    (asked.evaluation.value ≡ record { outcome = outcome; trace = trace }) × (asked.units ≡ cost_of outcome)
    × (asked.checks ≡ looked.checks)

-- how often kept evaluations were used, after that: once more, if one is held
abbrev pub evals_after : FileMap → CacheValue → Key → ℕ
evals_after files cache key = if is_held files cache key then one_more cache.counts.evals else cache.counts.evals

-- An evaluation was asked for with a cache: it begins or is there, and no line of it is done yet. If one that is held is
-- used, that is counted.
pub record AsksFirst (files : FileMap) (old new : CacheValue) (key : Key) (came : AskTurned) : Type 0 where
  pub begins : BeginsAsk files old key came
  pub comes : HasComeTo files key came
  pub looked : HasLooked no_spending came
  pub counted : new.counts.evals ≡ evals_after files old key

-- what is spent on what costs so many units together with the evaluation: not what was saved of the evaluation's cost
abbrev pub spent_less_saved : Asked → ℕ → Spent
spent_less_saved asked cost = record {
  units = cost - (cost_of asked.evaluation.value.outcome - asked.units);
  checks = asked.checks;
}

-- What is spent on one evaluation that was asked for, and on what is made of it.
abbrev pub AskingSpends : Type 0
AskingSpends =
    (files : FileMap) (key : Key) (asked : Asked) (cost : ℕ) → IsAnswerTo files key asked
    → SpendsOnOne cost (cost_of (evaluation_of files key).outcome) 1 (spent_less_saved asked cost)

-- the map of the files that a recorder asks stays; if the work failed, it may be that they failed, once
abbrev pub LeavesRecorded : {F A : Type 0} {names : Ghosts F} → (F → FilesView) → Result A FilesFault
    → Recorder F names → Recorder F names → Type 0
LeavesRecorded view result old new = LeavesMap (result_err result) (view_of view old) (view_of view new)
