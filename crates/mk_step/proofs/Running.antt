-- How a run of a machine comes from one point to another.
use Rattle.std.proofs.Common.{◌≡◌, ◌≤◌, ◌<◌, ◌+◌, ◌∙◌, ◌++◌, ◌⊎◌, ℕ, true, false, List, [], ◌∷◌, Result, Ok, Err, refl, sym, ap, subst}
use Rattle.std.proofs.Common.{arith, inl, inr}
use Rattle.mk_base.specs.declared.stops.Stop.{Stop}
use Rattle.mk_base.specs.declared.stops.Stop.TheVariants as stops
use Rattle.mk_base.specs.FaultAt.{FaultAt}
use Rattle.mk_base.specs.Meter.{Meter, IsLater}
use Rattle.mk_base.specs.Outcome.{left}
use Rattle.mk_base.specs.Stops.{StopsAt}
use Rattle.mk_paths.specs.FilesView.{FilesView, Question, noted, noted-twice, noted-nothing}
use Rattle.mk_paths.specs.declared.files.FilesFault.{FilesFault}
use Rattle.mk_files.specs.Questions.{Account, account}
use Rattle.mk_files.specs.AfterQuestions.{AfterQuestions, LeavesAtStop, LeavesAtStop-on}
use Rattle.mk_step.specs.Machine.{Frame, StateAndFrames, advance}
use Rattle.mk_step.specs.Costs.{Costs, may_follow}
use Rattle.mk_step.specs.Points.{Point, GoesOn, StopsWith, DoTheSame}
use Rattle.mk_step.specs.Turn.{AsksMore, IsLastDone, StopsInTime, RunsOn}
use Rattle.mk_step.proofs.Coming.{goes-nowhere, goes-free, goes-on, goes-step, stops-step, stops-on, notes, asked, spends}
use Rattle.mk_step.proofs.SharedSteps.{shared-advance}
use Rattle.mk_step.proofs.Heading.{leaves-less}

abbrev stop_at : Stop FaultAt → Stop FaultAt
stop_at stop = stop

-- where a run has come to that was given some units, from a start
pub record Way (first : FilesView) (start : Point) (units : ℕ) (old : FilesView) (point : Point) : Type 0 where
  pub goes : AsksMore first old (GoesOn first.files start point)
  pub last : (point.meter.spent ≡ start.meter.spent) ⊎ IsLastDone first.files units start point.meter.spent

pub way-begins : (first : FilesView) (start : Point) (units : ℕ) → Way first start units first start
way-begins first start units = record {
  goes = record { more = []; so = goes-nowhere first.files start; noted = noted-nothing first };
  last = inl refl;
}

module _ (may : FilesFault → Type 0) (first : FilesView) (start : Point) (units : ℕ) (old new : FilesView) (point : Point)
    (way : Way first start units old point) where
  same_files : old.files ≡ first.files
  same_files = ap (λ (view : FilesView). view.files) way.goes.noted

  in_time : StopsInTime first.files units start point.meter.spent
  in_time = record { onward = way.goes.so.later.spent; last = way.last }

  asked_so_far : AfterQuestions first old
  asked_so_far = record { questions = way.goes.more; in_log = way.goes.noted }

  -- nothing is to be done any more
  pub way-ends : (others : List Frame) → DoTheSame point.frames others → others ≡ []
      → RunsOn may first old start (record point { frames = others }) units (Ok true)
  way-ends others alike none = (
    (
      record {
        more = way.goes.more ++ [];
        so = goes-on first.files start point (record point { frames = others }) way.goes.more [] way.goes.so
            (goes-free first.files point.makefile point.frames others point.state point.meter
            (alike first.files point.makefile point.state));
        noted = noted-nothing old ∙ ap (λ view. noted view []) way.goes.noted ∙ noted-twice first way.goes.more [];
      },
      none,
    ),
    in_time,
  )

  -- the units are spent
  pub way-stays : start.meter.spent + units ≤ point.meter.spent → RunsOn may first old start point units (Ok false)
  way-stays spent = ((way.goes, spent), in_time)

  module _ (frame : Frame) (others : List Frame) (m' : Meter) (alike : DoTheSame point.frames (frame ∷ others))
      (later : IsLater point.meter m') where
    abbrev taken : Point
    taken = record point { frames = frame ∷ others }

    to_taken : GoesOn first.files point taken []
    to_taken = goes-free first.files point.makefile point.frames (frame ∷ others) point.state point.meter
        (alike first.files point.makefile point.state)

    abbrev asks_next : List Question
    asks_next = asked old new point.makefile frame others point.state point.meter m'

    noted_all : new ≡ noted old asks_next → new ≡ noted first (way.goes.more ++ ([] ++ asks_next))
    noted_all is = is ∙ ap (λ view. noted view asks_next) way.goes.noted ∙ noted-twice first way.goes.more asks_next

    -- what was done last, if fewer than the units were spent before
    last_at : (end : Result (StateAndFrames × Account) (FaultAt × Account)) → point.meter.spent < start.meter.spent + units
        → advance old.files point.makefile frame others point.state (account point.meter old) ≡ end
        → IsLastDone first.files units start (left end).meter.spent
    last_at end low is = record {
      makefile = point.makefile;
      frame = frame;
      others = others;
      state = point.state;
      account = account point.meter old;
      asked = way.goes.more ++ [];
      comes = goes-on first.files start point taken way.goes.more [] way.goes.so to_taken;
      low = low;
      leaves = ap (λ (end : Result (StateAndFrames × Account) (FaultAt × Account)). (left end).meter.spent)
          (subst (λ files. advance files point.makefile frame others point.state (account point.meter old) ≡ end) same_files is);
    }

    module _ (next : StateAndFrames) (asks : AfterQuestions old new) (is : advance old.files point.makefile frame others point.state
        (account point.meter old) ≡ Ok (next, account m' new)) where
      abbrev come : Point
      come = record { makefile = point.makefile; frames = next.1; state = next.0; meter = m' }

      to_come : GoesOn first.files taken come asks_next
      to_come = subst (λ files. GoesOn files taken come asks_next) same_files (goes-step old new point.makefile frame others point.state
          point.meter m' next later is)

      pub way-on : point.meter.spent < start.meter.spent + units → Way first start units new come
      way-on low = record {
        goes = record {
          more = way.goes.more ++ ([] ++ asks_next);
          so = goes-on first.files start point come way.goes.more ([] ++ asks_next) way.goes.so
              (goes-on first.files point taken come [] asks_next to_taken to_come);
          noted = noted_all (notes old new point.makefile frame others point.state point.meter m' (Ok (next, account m' new)) asks is refl);
        };
        last = inr (last_at (Ok (next, account m' new)) low is);
      }

      pub way-lessens : Costs frame → m'.spent ≤ point.meter.limit → may_follow m' next.1 < may_follow point.meter (frame ∷ others)
      way-lessens costs fits = leaves-less old.files point.makefile frame others point.state (account point.meter old) (account m' new)
          next costs is later fits

      pub way-fits : point.meter.spent ≤ point.meter.limit → m'.spent ≤ point.meter.limit
      way-fits fits =
          let shared = shared-advance old.files point.makefile frame others point.state in
          omega (arith, shared.steady.within point.meter fits, spends shared point.meter old.log (Ok (next, account m' new)) is)

    -- it stops
    pub way-stops : (stop : Stop FaultAt) (end : Point) → end.meter ≡ m'
        → StopsAt stop (account m' new) (advance old.files point.makefile frame others point.state (account point.meter old))
        → LeavesAtStop may old new stop
        → point.meter.spent < start.meter.spent + units → RunsOn may first new start end units (Err stop)
    way-stops (stops.Fault fault) end same at leaves low = (
      record {
        more = way.goes.more ++ ([] ++ asks_next);
        so = subst (λ m. StopsWith first.files start fault m (way.goes.more ++ ([] ++ asks_next))) (sym same)
            (stops-on first.files start point fault m' way.goes.more ([] ++ asks_next) later.spent way.goes.so
            (stops-on first.files point taken fault m' [] asks_next later.spent to_taken
            (subst (λ files. StopsWith files taken fault m' asks_next) same_files
            (stops-step old new point.makefile frame others point.state point.meter m' fault at))));
        noted = noted_all (notes old new point.makefile frame others point.state point.meter m'
            (Err (fault, account m' new)) leaves at refl);
      },
      subst (λ (m : Meter). StopsInTime first.files units start m.spent) (sym same)
          (record {
            onward = omega (arith, way.goes.so.later.spent, later.spent);
            last =
                inr (last_at (Err (fault, account m' new)) low at);
          }),
    )
    way-stops (stops.Store refusal) end same at leaves low = LeavesAtStop-on may first old new
        (stop_at (stops.Store refusal)) asked_so_far leaves
    way-stops (stops.Memory refused) end same at leaves low = LeavesAtStop-on may first old new
        (stop_at (stops.Memory refused)) asked_so_far leaves
