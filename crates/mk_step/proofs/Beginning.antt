-- How an evaluation begins.
use Rattle.std.proofs.Common.{◌≡◌, ◌∙◌, ℕ, List, [], ◌∷◌, Option, Some, None, Result, Ok, Err, refl, sym, ap, subst, arith, inl, inr}
use Rattle.std.specs.FinMap.{get}
use Rattle.mk_base.specs.declared.budget.TheConstants.{UNITS}
use Rattle.mk_base.specs.declared.faults.FaultKind.TheVariants as kinds
use Rattle.mk_base.specs.declared.stops.Stop.{Stop}
use Rattle.mk_base.specs.declared.stops.Stop.TheVariants as stops
use Rattle.mk_base.specs.declared.stops.PureStop.{PureStop}
use Rattle.mk_base.specs.declared.stops.PureStop.TheVariants as pure
use Rattle.mk_base.specs.Blame.{IsBlamed}
use Rattle.mk_base.specs.FaultAt.{FaultAt, fault_at}
use Rattle.mk_base.specs.Meter.{Meter, full}
use Rattle.mk_base.specs.Outcome.{give, after}
use Rattle.mk_base.specs.Stops.{StopsPurelyAt, stop_of_pure}
use Rattle.mk_ast.specs.declared.parser.ParseFault.{ParseFault}
use Rattle.mk_ast.specs.Trees.{Block}
use Rattle.mk_ast.specs.Parser.{parsed}
use Rattle.mk_paths.specs.World.{FileMap}
use Rattle.mk_paths.specs.FilesView.{FilesView, Question, Contents, noted, Fails}
use Rattle.mk_paths.specs.declared.search_path.Settings.{Settings}
use Rattle.mk_paths.specs.declared.files.FilesFault.{FilesFault}
use Rattle.mk_files.specs.Questions.{Account}
use Rattle.mk_files.specs.AfterQuestions.{looked, IsPossibleFailure, LeavesAtStop-one, AfterQuestions-one}
use Rattle.mk_eval.specs.declared.state.EvalState.{EvalState}
use Rattle.mk_eval.specs.Execution.{execute}
use Rattle.mk_eval.specs.Meaning.{evaluation, unspent_account, makefile_meaning, execute_read, opening_state}
use Rattle.mk_eval.specs.Steps.{entering_at}
use Rattle.mk_eval.proofs.Stepping.{file_meaning-is}
use Rattle.mk_step.specs.Machine.{Site, Frame, Lines, works_in, rest, read_lines}
use Rattle.mk_step.specs.Points.{Point, with_asked, HasCome, EndsSo}
use Rattle.mk_step.specs.Turn.{BeginsMachine}
use Rattle.mk_step.specs.Views.{point_of}
use Rattle.mk_step.specs.declared.machine.Machine.{Machine}
use Rattle.refusals.specs.Refused.{refused}

after-give : {M F A : Type 0} (r : Result (A × M) (F × M)) → after r give ≡ r
after-give (Ok end) = refl
after-give (Err end) = refl

abbrev frame_in : Result ((EvalState × Option Frame) × Account) (FaultAt × Account) → Option Frame → Option Frame
frame_in (Ok end) default = end.0.1
frame_in (Err end) default = default

abbrev fault_in : Result ((EvalState × Option Frame) × Account) (FaultAt × Account) → FaultAt → FaultAt
fault_in (Ok end) default = default
fault_in (Err end) default = end.0

abbrev stop_at : Stop FaultAt → Stop FaultAt
stop_at stop = stop

module _ (files : FileMap) (settings : Settings) (name : List ℕ) (flavors : Option (List (List ℕ))) where
  abbrev pub first_asked : Option (List ℕ) → List Question
  first_asked content = (name, Contents content) ∷ []

  evaluates : (content : Option (List ℕ)) → get files name ≡ content → (limit : ℕ) (log : Option (List Question))
      → evaluation (files, settings) name flavors (unspent_account limit log) ≡ makefile_meaning (files, settings) name flavors content
      (record { meter = full limit; log = with_asked log (first_asked content) })
  unfolding evaluation
  evaluates content is limit log =
      ap (λ content. makefile_meaning (files, settings) name flavors content
      (record { meter = full limit; log = with_asked log (first_asked content) })) is

  missing : get files name ≡ None → EndsSo (files, settings) name flavors (first_asked None)
      (Err (fault_at kinds.Include name 0, full UNITS))
  missing is = record { ends = λ limit log low inside. evaluates None is limit log; within = omega arith }

  module _ (bytes : List ℕ) (is : get files name ≡ Some bytes) where
    reads : (limit : ℕ) (log : Option (List Question)) → evaluation (files, settings) name flavors (unspent_account limit log)
        ≡ execute_read (entering_at files name 16) (record { files = files; makefile = name; file = name; levels = 16 }) (parsed bytes)
        (opening_state (files, settings) name flavors) (record { meter = full limit; log = with_asked log (first_asked (Some bytes)) })
    reads limit log =
        evaluates (Some bytes) is limit log
        ∙ file_meaning-is files name 16 name bytes (opening_state (files, settings) name flavors)
        (record { meter = full limit; log = with_asked log (first_asked (Some bytes)) })

    stops_read : (fault : FaultAt) (found : Result Block ParseFault) (s : EvalState) (a : Account)
        → read_lines name 16 found s a ≡ Err (fault, a)
        → execute_read (entering_at files name 16) (record { files = files; makefile = name; file = name; levels = 16 })
        found s a ≡ Err (fault, a)
    stops_read fault (Ok block) s a is = cc
    stops_read fault (Err error) s a is =
        ap (λ (r : Result ((EvalState × Option Frame) × Account) (FaultAt × Account)). let end : Result (EvalState × Account)
        (FaultAt × Account) = Err (fault_in r fault, a) in end) is

    unreadable : (fault : FaultAt) → ((s : EvalState) (a : Account) → read_lines name 16 (parsed bytes) s a ≡ Err (fault, a))
        → EndsSo (files, settings) name flavors (first_asked (Some bytes)) (Err (fault, full UNITS))
    unreadable fault fails = record {
      ends = λ limit log low inside.
          let a : Account = record { meter = full limit; log = with_asked log (first_asked (Some bytes)) } in
          reads limit log ∙ stops_read fault (parsed bytes) (opening_state (files, settings) name flavors) a
          (fails (opening_state (files, settings) name flavors) a);
      within = omega arith;
    }

    goes : (frame : Frame) (found : Result Block ParseFault) (s : EvalState) (a : Account)
        → read_lines name 16 found s a ≡ Ok ((s, Some frame), a)
        → execute_read (entering_at files name 16) (record { files = files; makefile = name; file = name; levels = 16 }) found s a ≡ rest
        files name (frame ∷ []) s a
    goes frame (Ok block) s a is =
        let site : Site = record { file = name; levels = 16; loops = None } in
        let same : Lines site block ≡ frame = let e : Some (Lines site block) ≡ Some frame = ap (λ r. frame_in r None) is in cc in
        sym (after-give (execute (works_in files name site) block None s a)) ∙ ap (λ frame. rest files name (frame ∷ []) s a) same
    goes frame (Err error) s a is = cc

    begun : (frame : Frame) → ((s : EvalState) (a : Account) → read_lines name 16 (parsed bytes) s a ≡ Ok ((s, Some frame), a))
        → HasCome (files, settings) name flavors (first_asked (Some bytes))
        (record { makefile = name; frames = frame ∷ []; state = opening_state (files, settings) name flavors; meter = full UNITS })
    begun frame gives = record {
      ends = λ limit log low inside.
          let a : Account = record { meter = full limit; log = with_asked log (first_asked (Some bytes)) } in
          reads limit log ∙ goes frame (parsed bytes) (opening_state (files, settings) name flavors) a
          (gives (opening_state (files, settings) name flavors) a);
      limit = refl;
      within = omega arith;
    }

-- what the code's beginning leaves
module _ (may : FilesFault → Type 0) (old new : FilesView) (settings : Settings) (name : List ℕ) (flavors : Option (List (List ℕ))) where
  pub look-stops : (stop : Stop FaultAt) → IsPossibleFailure may stop → Fails old new
      → BeginsMachine may old new (old.files, settings) name flavors (Err stop)
  look-stops (stops.Fault fault) refuses fails = absurd refuses
  look-stops (stops.Store refusal) refuses fails = LeavesAtStop-one may old new (stop_at (stops.Store refusal)) (refuses, fails)
  look-stops (stops.Memory refused) refuses fails = LeavesAtStop-one may old new (stop_at (stops.Memory refused)) (refuses, fails)

  module _ (is : new ≡ looked old name) where
    pub memory-stops : BeginsMachine may old new (old.files, settings) name flavors (Err (stops.Memory refused))
    memory-stops = inl (AfterQuestions-one old new _ is)

    pub missing-stops : (stop : Stop FaultAt) → get old.files name ≡ None → IsBlamed name 0 (stops.Fault kinds.Include) stop
        → BeginsMachine may old new (old.files, settings) name flavors (Err stop)
    missing-stops stop none blamed =
        elim blamed [
          | inl told ↦ rw told (record {
            more = first_asked old.files settings name flavors None;
            so = missing old.files settings name flavors none;
            noted = is ∙ ap (λ content. noted old ((name, Contents content) ∷ [])) none;
          })
          | inr told ↦ rw told memory-stops
        ]

    pub reading-stops : (stop : PureStop FaultAt) (bytes : List ℕ) → get old.files name ≡ Some bytes
        → ((s : EvalState) (a : Account) → StopsPurelyAt stop a (read_lines name 16 (parsed bytes) s a))
        → BeginsMachine may old new (old.files, settings) name flavors (Err (stop_of_pure stop))
    reading-stops (pure.Fault fault) bytes there fails = record {
      more = first_asked old.files settings name flavors (Some bytes);
      so = unreadable old.files settings name flavors bytes there fault fails;
      noted = is ∙ ap (λ content. noted old ((name, Contents content) ∷ [])) there;
    }
    reading-stops (pure.Memory _) bytes there fails = memory-stops

    pub begins : (machine : Machine) (frame : Frame) (bytes : List ℕ) → get old.files name ≡ Some bytes
        → ((s : EvalState) (a : Account) → read_lines name 16 (parsed bytes) s a ≡ Ok ((s, Some frame), a))
        → point_of machine ≡ record {
          makefile = name;
          frames = frame ∷ [];
          state = opening_state (old.files, settings) name
              flavors;
          meter = full UNITS;
        }
        → BeginsMachine may old new (old.files, settings) name flavors (Ok machine)
    begins machine frame bytes there gives same = (
      record {
        more = first_asked old.files settings name flavors (Some bytes);
        so = subst (HasCome (old.files, settings) name flavors (first_asked old.files settings name flavors (Some bytes))) (sym same)
            (begun old.files settings name flavors bytes there frame gives);
        noted = is ∙ ap (λ content. noted old ((name, Contents content) ∷ [])) there;
      },
      ap (λ (point : Point). point.meter) same,
    )

pub point-is : (makefile makefile' : List ℕ) (frames frames' : List Frame) (state state' : EvalState) (meter meter' : Meter)
    → makefile ≡ makefile' → frames ≡ frames' → state ≡ state' → meter ≡ meter'
    → (let point : Point = record { makefile = makefile; frames = frames; state = state; meter = meter } in point) ≡
    record { makefile = makefile'; frames = frames'; state = state'; meter = meter' }
point-is makefile makefile' frames frames' state state' meter meter' one two three four =
    ap (λ makefile. let point : Point = record { makefile = makefile; frames = frames; state = state; meter = meter } in point) one
    ∙ ap (λ frames. let point : Point = record { makefile = makefile'; frames = frames; state = state; meter = meter } in point) two
    ∙ ap (λ state. let point : Point = record { makefile = makefile'; frames = frames'; state = state; meter = meter } in point) three
    ∙ ap (λ meter. let point : Point = record { makefile = makefile'; frames = frames'; state = state'; meter = meter } in point) four
