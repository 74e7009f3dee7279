-- What is known of a whole evaluation after a turn.
use Rattle.std.proofs.Common.{◌≡◌, ◌≤◌, ◌++◌, ℕ, List, [], Option, Ok, Err, refl, arith}
use Rattle.mk_base.specs.declared.budget.TheConstants.{UNITS}
use Rattle.mk_base.specs.declared.stops.Stop.{Stop}
use Rattle.mk_base.specs.declared.stops.Stop.TheVariants as stops
use Rattle.mk_base.specs.FaultAt.{FaultAt}
use Rattle.mk_base.specs.Meter.{IsLater, full}
use Rattle.mk_paths.specs.FilesView.{FilesView, Question}
use Rattle.mk_paths.specs.declared.search_path.Settings.{Settings}
use Rattle.mk_paths.specs.declared.files.FilesFault.{FilesFault}
use Rattle.mk_eval.specs.Meaning.{means}
use Rattle.mk_eval.specs.Agreement.{questions_of}
use Rattle.mk_step.specs.Points.{Point, HasCome, GoesOn, StopsWith, EndsSo}
use Rattle.mk_step.specs.Turn.{AsksMore, BeginsMachine, RunsOn, TellsIfDone, Leaves, IsNew, Spends, stopped}
use Rattle.mk_step.specs.Views.{point_of}
use Rattle.mk_step.specs.declared.machine.Machine.{Machine}
use Rattle.mk_step.proofs.Coming.{come-on, ends-so, fails-so, means-end, asks-end}

module _ (may : FilesFault → Type 0) (old new : FilesView) (settings : Settings) (name : List ℕ) (flavors : Option (List (List ℕ))) where
  -- the beginning stopped
  pub begin-tells : (stop : Stop FaultAt) → BeginsMachine may old new (old.files, settings) name flavors (Err stop)
      → TellsIfDone (stopped stop 0) (means (old.files, settings) name flavors)
  begin-tells (stops.Fault fault) begins = means-end old.files settings name flavors begins.more (Err (fault, full UNITS)) begins.so
  begin-tells (stops.Store _) begins = tt
  begin-tells (stops.Memory _) begins = tt

  pub begin-leaves : (stop : Stop FaultAt) → BeginsMachine may old new (old.files, settings) name flavors (Err stop)
      → Leaves may old new (old.files, settings) name flavors [] (stopped stop 0)
  begin-leaves (stops.Fault fault) begins = record {
    more = begins.more;
    so = asks-end old.files settings name flavors begins.more
        (Err (fault, full UNITS)) begins.so;
    noted = begins.noted;
  }
  begin-leaves (stops.Store _) begins = begins
  begin-leaves (stops.Memory _) begins = begins

  pub begin-new : (stop : Stop FaultAt) → IsNew (stopped stop 0)
  begin-new (stops.Fault fault) = refl
  begin-new (stops.Store _) = tt
  begin-new (stops.Memory _) = tt

  module _ (asked : List Question) (start end : Point) (has : HasCome (old.files, settings) name flavors asked start)
      (fits : end.meter.spent ≤ end.meter.limit) (later : IsLater start.meter end.meter) where
    -- there is more to do
    pub turn-more : AsksMore old new (GoesOn old.files start end)
        → AsksMore old new (λ more. HasCome (old.files, settings) name flavors (asked ++ more) end)
    turn-more goes = record {
      more = goes.more;
      so = come-on (old.files, settings) name flavors asked goes.more start end fits has
          goes.so;
      noted = goes.noted;
    }

    module _ (goes : AsksMore old new (GoesOn old.files start end)) (none : end.frames ≡ []) where
      so : EndsSo (old.files, settings) name flavors (asked ++ goes.more) (Ok (end.state, end.meter))
      so = ends-so old.files settings name flavors (asked ++ goes.more) end none (come-on (old.files, settings) name flavors asked goes.more
          start end fits has goes.so)

      pub turn-tells : means (old.files, settings) name flavors ≡ Ok
          (record { kind = end.state.kind; env = end.state.variables; cost = end.meter.spent })
      turn-tells = means-end old.files settings name flavors (asked ++ goes.more) (Ok (end.state, end.meter)) so

      pub turn-leaves : AsksMore old new (λ more. questions_of old.files settings name flavors ≡ asked ++ more)
      turn-leaves = record {
        more = goes.more;
        so = asks-end old.files settings name flavors (asked ++ goes.more)
            (Ok (end.state, end.meter)) so;
        noted = goes.noted;
      }

    fails : (fault : FaultAt) (more : List Question) → StopsWith old.files start fault end.meter more
        → EndsSo (old.files, settings) name flavors (asked ++ more) (Err (fault, end.meter))
    fails fault more stops = fails-so old.files settings name flavors asked start fault end.meter more later.spent
        (omega (arith, fits, later.limit, has.limit)) has stops

    -- it stopped
    pub stop-tells : (units : ℕ) (stop : Stop FaultAt) → RunsOn may old new start end units (Err stop)
        → TellsIfDone (stopped stop end.meter.spent) (means (old.files, settings) name flavors)
    stop-tells units (stops.Fault fault) runs = means-end old.files settings name flavors (asked ++ runs.0.more) (Err (fault, end.meter))
        (fails fault runs.0.more runs.0.so)
    stop-tells units (stops.Store _) runs = tt
    stop-tells units (stops.Memory _) runs = tt

    pub stop-leaves : (units : ℕ) (stop : Stop FaultAt) → RunsOn may old new start end units (Err stop)
        → Leaves may old new (old.files, settings) name flavors asked (stopped stop end.meter.spent)
    stop-leaves units (stops.Fault fault) runs = record {
      more = runs.0.more;
      so = asks-end old.files settings name flavors
          (asked ++ runs.0.more) (Err (fault, end.meter)) (fails fault runs.0.more runs.0.so);
      noted = runs.0.noted;
    }
    stop-leaves units (stops.Store _) runs = runs
    stop-leaves units (stops.Memory _) runs = runs

-- a stop comes in time
pub stop-spends : (may : FilesFault → Type 0) (old new : FilesView) (machine : Machine) (end : Point) (units : ℕ) (stop : Stop FaultAt)
    → RunsOn may old new (point_of machine) end units (Err stop)
    → Spends old.files units machine (stopped stop end.meter.spent)
stop-spends may old new machine end units (stops.Fault fault) runs = runs.1
stop-spends may old new machine end units (stops.Store _) runs = tt
stop-spends may old new machine end units (stops.Memory _) runs = tt
