-- How far an evaluation has come.
use Rattle.std.specs.Prelude.{◌≡◌, ◌≤◌, ℕ, List, ◌∷◌, ◌++◌, Option, option_map, Result, Ok, Err}
use Rattle.mk_base.specs.declared.budget.TheConstants.{UNITS}
use Rattle.mk_base.specs.FaultAt.{FaultAt}
use Rattle.mk_base.specs.Meter.{Meter, IsLater}
use Rattle.mk_base.specs.Outcome.{left}
use Rattle.mk_paths.specs.World.{FileMap, World, files_in}
use Rattle.mk_paths.specs.FilesView.{Question}
use Rattle.mk_files.specs.Questions.{Account, beside}
use Rattle.mk_eval.specs.Meaning.{evaluation, unspent_account}
use Rattle.mk_eval.specs.declared.state.EvalState.{EvalState}
use Rattle.mk_step.specs.Machine.{Frame, rest}

-- a point between two lines of an evaluation: which makefile is evaluated, what is still to be done, the state,
-- and what was spent
pub record Point : Type 0 where
  pub makefile : List ℕ
  pub frames : List Frame
  pub state : EvalState
  pub meter : Meter

-- the point before the next thing that a frame does, with these other frames after it
abbrev pub point_before : List ℕ → Frame → List Frame → EvalState → Account → Point
point_before makefile frame others state account = record {
  makefile = makefile;
  frames = frame ∷ others;
  state = state;
  meter = account.meter;
}

-- the meter with another limit
abbrev pub limited : ℕ → Meter → Meter
limited limit meter = record meter { limit = limit }

-- a log, if there is one, with more questions
abbrev pub with_asked : Option (List Question) → List Question → Option (List Question)
with_asked log questions = option_map (λ log. log ++ questions) log

-- the end of an evaluation that goes on from a point, with this limit and this log
abbrev pub end_from_point : FileMap → Point → ℕ → Option (List Question) → Result (EvalState × Account) (FaultAt × Account)
end_from_point files point limit log =
    rest files point.makefile point.frames point.state (record { meter = limited limit point.meter; log = log })

-- The evaluation of a makefile has come to a point, and has asked these questions. With any log, and with any
-- limit that what was spent fits in, the whole evaluation ends as the rest of it does from this point: with the same
-- variables or the same fault, at the same cost, after the same questions. The point is one by its end alone, whether or
-- not a machine was there.
pub record HasCome (world : World) (name : List ℕ) (flavors : Option (List (List ℕ))) (asked : List Question) (point : Point)
    : Type 0 where
  pub ends : (limit : ℕ) (log : Option (List Question)) → point.meter.spent ≤ limit → limit ≤ UNITS
      → evaluation world name flavors (unspent_account limit log) ≡ end_from_point (files_in world) point limit (with_asked log asked)
  pub limit : point.meter.limit ≡ UNITS
  pub within : point.meter.spent ≤ UNITS

-- An evaluation goes on from a point to a later one, and asks these questions between them. From both it ends
-- alike, with any log, and with any limit that what was spent up to the later point fits in.
pub record GoesOn (files : FileMap) (old new : Point) (asked : List Question) : Type 0 where
  pub ends : (limit : ℕ) (log : Option (List Question)) → new.meter.spent ≤ limit → limit ≤ old.meter.limit
      → end_from_point files old limit log ≡ end_from_point files new limit (with_asked log asked)
  pub later : IsLater old.meter new.meter

-- An evaluation stops at a fault that comes after a point, and asks these questions between them. From that point
-- it ends so with any log, and with any limit that what was spent up to the fault fits in.
pub record StopsWith (files : FileMap) (point : Point) (fault : FaultAt) (meter : Meter) (asked : List Question) : Type 0 where
  pub ends : (limit : ℕ) (log : Option (List Question)) → meter.spent ≤ limit → limit ≤ point.meter.limit
      → end_from_point files point limit log ≡ Err (fault, record { meter = limited limit meter; log = with_asked log asked })

-- these frames have the same to do as those, at the same cost
abbrev pub DoTheSame : List Frame → List Frame → Type 0
DoTheSame frames others =
    (files : FileMap) (makefile : List ℕ) (s : EvalState) (a : Account) → rest files makefile frames s a ≡ rest files makefile others s a

-- an end under another limit
abbrev pub limited_end : Result (EvalState × Meter) (FaultAt × Meter) → ℕ → Result (EvalState × Meter) (FaultAt × Meter)
limited_end (Ok end) limit = Ok (end.0, limited limit end.1)
limited_end (Err end) limit = Err (end.0, limited limit end.1)

-- The whole evaluation of a makefile ends so, with any log, and with any limit that what was spent fits in. These are
-- all the questions that it asks.
pub record EndsSo (world : World) (name : List ℕ) (flavors : Option (List (List ℕ))) (asked : List Question)
    (end : Result (EvalState × Meter) (FaultAt × Meter)) : Type 0 where
  pub ends : (limit : ℕ) (log : Option (List Question)) → (left end).spent ≤ limit → limit ≤ UNITS
      → evaluation world name flavors (unspent_account limit log) ≡ beside (with_asked log asked) (limited_end end limit)
  pub within : (left end).spent ≤ UNITS
