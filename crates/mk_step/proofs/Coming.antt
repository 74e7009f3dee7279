-- How an evaluation comes from one point to another, and what is known of the whole at each.
use Rattle.std.proofs.Common.{◌≡◌, ◌≤◌, ◌∙◌, ◌++◌, ℕ, List, [], ◌∷◌, Option, Some, None, unwrap_or, Result, Ok, Err, refl, sym, ap, subst}
use Rattle.std.proofs.Common.{arith}
use Rattle.mk_base.specs.declared.budget.TheConstants.{UNITS}
use Rattle.mk_base.specs.FaultAt.{FaultAt}
use Rattle.mk_base.specs.Meter.{Meter, IsLater, IsLater-on}
use Rattle.mk_base.specs.Outcome.{Work, left, after}
use Rattle.mk_paths.specs.World.{FileMap, World, files_in}
use Rattle.mk_paths.specs.FilesView.{FilesView, Question, noted}
use Rattle.mk_files.specs.Questions.{Account, account, beside}
use Rattle.mk_files.specs.AfterQuestions.{AfterQuestions}
use Rattle.mk_paths.specs.declared.search_path.Settings.{Settings}
use Rattle.mk_eval.specs.Meaning.{evaluated, means, questions_asked}
use Rattle.mk_eval.specs.Agreement.{cost_of, questions_of}
use Rattle.mk_eval.specs.declared.state.EvalState.{EvalState}
use Rattle.mk_eval.proofs.Shared.{Shared, with-nothing, with-both}
use Rattle.mk_eval.proofs.Steady.{lowered}
use Rattle.mk_eval.proofs.Logged.{noted-by}
use Rattle.mk_step.specs.Machine.{Frame, StateAndFrames, rest, advance}
use Rattle.mk_step.specs.Points.{Point, limited, with_asked, end_from_point, limited_end, HasCome, GoesOn, StopsWith, EndsSo}
use Rattle.mk_step.proofs.Advancing.{onward, advances}
use Rattle.mk_step.proofs.SharedSteps.{shared-advance, shared-rest}

-- the same end, under this limit and with this log
abbrev pub again : {A F : Type 0} → ℕ → Option (List Question) → Result (A × Account) (F × Account) → Result (A × Account) (F × Account)
again limit log (Ok end) = Ok (end.0, record { meter = limited limit end.1.meter; log = log })
again limit log (Err end) = Err (end.0, record { meter = limited limit end.1.meter; log = log })

again-beside : {A F : Type 0} (limit : ℕ) (log other : Option (List Question)) (r : Result (A × Meter) (F × Meter))
    → beside log (lowered limit r) ≡ again limit log (beside other r)
again-beside limit log other (Ok end) = refl
again-beside limit log other (Err end) = refl

meter-beside : {A F : Type 0} (log : Option (List Question)) (r : Result (A × Meter) (F × Meter)) → (left (beside log r)).meter ≡ left r
meter-beside log (Ok end) = refl
meter-beside log (Err end) = refl

log-beside : {A F : Type 0} (log : Option (List Question)) (r : Result (A × Meter) (F × Meter)) → (left (beside log r)).log ≡ log
log-beside log (Ok end) = refl
log-beside log (Err end) = refl

-- work that ended so with one limit and one log ends so with every lower limit and every log
module _ {A F : Type 0} {files : FileMap} {work : Work Account F A} (shared : Shared files work work) (m : Meter)
    (before : Option (List Question)) (end : Result (A × Account) (F × Account))
    (is : work (record { meter = m; log = before }) ≡ end) where
  same_end : end ≡ beside (with_asked before (shared.asks m)) (shared.ends m)
  same_end = sym is ∙ shared.is m before

  pub spends : (left end).meter.spent ≡ (left (shared.ends m)).spent
  spends = ap (λ (r : Result (A × Account) (F × Account)). (left r).meter.spent) same_end
      ∙ ap (λ (m : Meter). m.spent) (meter-beside (with_asked before (shared.asks m)) (shared.ends m))

  pub logs : (left end).log ≡ with_asked before (shared.asks m)
  logs = ap (λ (r : Result (A × Account) (F × Account)). (left r).log) same_end
      ∙ log-beside (with_asked before (shared.asks m)) (shared.ends m)

  pub ends-again : (limit : ℕ) (log : Option (List Question)) → (left end).meter.spent ≤ limit → limit ≤ m.limit
      → work (record { meter = limited limit m; log = log }) ≡ again limit (with_asked log (shared.asks m)) end
  ends-again limit log low inside =
      let fits : (left (shared.ends m)).spent ≤ limit = subst (λ n. n ≤ limit) spends low in
      shared.is (limited limit m) log
      ∙ ap (λ asked. beside (with_asked log asked) (shared.ends (limited limit m))) (shared.same m limit inside fits)
      ∙ ap (beside (with_asked log (shared.asks m))) (shared.steady.lower m limit inside fits)
      ∙ again-beside limit (with_asked log (shared.asks m)) (with_asked before (shared.asks m)) (shared.ends m)
      ∙ ap (again limit (with_asked log (shared.asks m))) (sym same_end)

-- one thing that the machine does among files: what it asks, and where it comes
module _ (old new : FilesView) (makefile : List ℕ) (frame : Frame) (frames : List Frame) (s : EvalState) (m m' : Meter) where
  abbrev pub point : Point
  point = record { makefile = makefile; frames = frame ∷ frames; state = s; meter = m }

  abbrev pub asked : List Question
  asked = (shared-advance old.files makefile frame frames s).asks m

  pub notes : (end : Result (StateAndFrames × Account) (FaultAt × Account)) → AfterQuestions old new
      → advance old.files makefile frame frames s (account m old) ≡ end → (left end).log ≡ new.log → new ≡ noted old asked
  notes end asks is log = noted-by old new asked asks (sym log ∙ logs (shared-advance old.files makefile frame frames s) m old.log end is)

  pub goes-step : (next : StateAndFrames) → IsLater m m' → advance old.files makefile frame frames s (account m old) ≡
      Ok (next, account m' new)
      → GoesOn old.files point (record { makefile = makefile; frames = next.1; state = next.0; meter = m' }) asked
  goes-step next later is = record {
    ends = λ limit log low inside.
        sym (advances old.files makefile frames frame s (record { meter = limited limit m; log = log }))
        ∙ ap (λ r. after r (onward old.files makefile)) (ends-again (shared-advance old.files makefile frame frames s) m old.log
        (Ok (next, account m' new)) is limit log low inside);
    later = later;
  }

  pub stops-step : (fault : FaultAt) → advance old.files makefile frame frames s (account m old) ≡ Err (fault, account m' new)
      → StopsWith old.files point fault m' asked
  stops-step fault is = record {
    ends = λ limit log low inside.
        sym (advances old.files makefile frames frame s (record { meter = limited limit m; log = log }))
        ∙ ap (λ r. after r (onward old.files makefile)) (ends-again (shared-advance old.files makefile frame frames s) m old.log
        (Err (fault, account m' new)) is limit log low inside);
  }

-- nothing is done
pub goes-nowhere : (files : FileMap) (point : Point) → GoesOn files point point []
goes-nowhere files point = record {
  ends = λ limit log low inside. ap (end_from_point files point limit) (sym (with-nothing log));
  later = record { limit = refl; spent = omega arith; questions = omega arith };
}

-- frames that have nothing to do are taken away
pub goes-free : (files : FileMap) (makefile : List ℕ) (frames next : List Frame) (s : EvalState) (m : Meter)
    → ((a : Account) → rest files makefile frames s a ≡ rest files makefile next s a)
    → GoesOn files (record { makefile = makefile; frames = frames; state = s; meter = m })
    (record { makefile = makefile; frames = next; state = s; meter = m }) []
goes-free files makefile frames next s m same = record {
  ends = λ limit log low inside. same (record { meter = limited limit m; log = log })
      ∙ ap (λ log. rest files makefile next s (record { meter = limited limit m; log = log })) (sym (with-nothing log));
  later = record { limit = refl; spent = omega arith; questions = omega arith };
}

-- from one point to another, and from there to a third
pub goes-on : (files : FileMap) (first next last : Point) (asked more : List Question) → GoesOn files first next asked
    → GoesOn files next last more → GoesOn files first last (asked ++ more)
goes-on files first next last asked more one two = record {
  ends = λ limit log low inside.
      let reached : next.meter.spent ≤ limit = omega (arith, two.later.spent, low) in
      let below : limit ≤ next.meter.limit = omega (arith, one.later.limit, inside) in
      one.ends limit log reached inside ∙ two.ends limit (with_asked log asked) low below ∙ ap (end_from_point files last limit)
      (with-both log asked more);
  later = IsLater-on one.later two.later;
}

-- from one point to another, and there to a fault
pub stops-on : (files : FileMap) (first next : Point) (fault : FaultAt) (m : Meter) (asked more : List Question)
    → next.meter.spent ≤ m.spent → GoesOn files first next asked → StopsWith files next fault m more
    → StopsWith files first fault m (asked ++ more)
stops-on files first next fault m asked more later one two = record {
  ends = λ limit log low inside.
      let reached : next.meter.spent ≤ limit = omega (arith, later, low) in
      let below : limit ≤ next.meter.limit = omega (arith, one.later.limit, inside) in
      one.ends limit log reached inside ∙ two.ends limit (with_asked log asked) low below
      ∙ ap (λ log. let end : Result (EvalState × Account) (FaultAt × Account) = Err (fault, record { meter = limited limit m; log = log })
      in end) (with-both log asked more);
}

-- the whole evaluation has come where a part of it comes
pub come-on : (world : World) (name : List ℕ) (flavors : Option (List (List ℕ))) (asked more : List Question) (old new : Point)
    → new.meter.spent ≤ new.meter.limit
    → HasCome world name flavors asked old → GoesOn (files_in world) old new more → HasCome world name flavors (asked ++ more) new
come-on world name flavors asked more old new fits has goes = record {
  ends = λ limit log low inside.
      let reached : old.meter.spent ≤ limit = omega (arith, goes.later.spent, low) in
      let below : limit ≤ old.meter.limit = omega (arith, has.limit, inside) in
      has.ends limit log reached inside ∙ goes.ends limit (with_asked log asked) low below ∙ ap (end_from_point (files_in world) new limit)
      (with-both log asked more);
  limit = goes.later.limit ∙ has.limit;
  within = omega (arith, fits, goes.later.limit, has.limit);
}

evaluated-beside : (log : Option (List Question)) (limit : ℕ) (r : Result (EvalState × Meter) (FaultAt × Meter))
    → evaluated (beside log (limited_end r limit)) ≡ evaluated (beside None r)
evaluated-beside log limit (Ok end) = refl
evaluated-beside log limit (Err end) = refl

lowered-is : (limit : ℕ) (log : Option (List Question)) (r : Result (EvalState × Meter) (FaultAt × Meter))
    → beside log (lowered limit r) ≡ beside log (limited_end r limit)
lowered-is limit log (Ok end) = refl
lowered-is limit log (Err end) = refl

cost-beside : (r : Result (EvalState × Meter) (FaultAt × Meter)) → cost_of (evaluated (beside None r)) ≡ (left r).spent
cost-beside (Ok end) = refl
cost-beside (Err end) = refl

module _ (files : FileMap) (settings : Settings) (name : List ℕ) (flavors : Option (List (List ℕ))) (asked : List Question)
    (end : Result (EvalState × Meter) (FaultAt × Meter))
    (so : EndsSo (files, settings) name flavors asked end) where
  -- it means this end
  pub means-end : means (files, settings) name flavors ≡ evaluated (beside None end)
  means-end = ap evaluated (so.ends UNITS None so.within (omega arith)) ∙ evaluated-beside None UNITS end

  cost-end : cost_of (means (files, settings) name flavors) ≡ (left end).spent
  cost-end = ap cost_of means-end ∙ cost-beside end

  -- and these are all of its questions
  pub asks-end : questions_of files settings name flavors ≡ asked
  asks-end =
      ap (questions_asked (files, settings) name flavors) cost-end
      ∙ ap (λ (r : Result (EvalState × Account) (FaultAt × Account)). unwrap_or (left r).log [])
      (so.ends (left end).spent (Some []) (omega arith) so.within)
      ∙ ap (λ log. unwrap_or log []) (log-beside (Some asked) (limited_end end (left end).spent))

module _ (files : FileMap) (settings : Settings) (name : List ℕ) (flavors : Option (List (List ℕ))) (asked : List Question) where
  -- with no frame left, the evaluation is at its end
  pub ends-so : (point : Point) → point.frames ≡ [] → HasCome (files, settings) name flavors asked point
      → EndsSo (files, settings) name flavors asked (Ok (point.state, point.meter))
  ends-so point none has = record {
    ends = λ limit log low inside. has.ends limit log low inside
        ∙ ap (λ frames. rest files point.makefile frames point.state
        (record { meter = limited limit point.meter; log = with_asked log asked })) none;
    within = has.within;
  }

  -- a fault is the end too
  pub fails-so : (point : Point) (fault : FaultAt) (m : Meter) (more : List Question) → point.meter.spent ≤ m.spent → m.spent ≤ UNITS
      → HasCome (files, settings) name flavors asked point → StopsWith files point fault m more
      → EndsSo (files, settings) name flavors (asked ++ more) (Err (fault, m))
  fails-so point fault m more later within has stops = record {
    ends = λ limit log low inside.
        let reached : point.meter.spent ≤ limit = omega (arith, later, low) in
        let below : limit ≤ point.meter.limit = omega (arith, has.limit, inside) in
        has.ends limit log reached inside ∙ stops.ends limit (with_asked log asked) low below
        ∙ ap (λ log. let end : Result (EvalState × Account) (FaultAt × Account) = Err (fault, record { meter = limited limit m; log = log })
        in end) (with-both log asked more);
    within = within;
  }

  -- at any point: what was spent isn't more than the cost, and what was asked comes first of all that is asked
  module _ (point : Point) (has : HasCome (files, settings) name flavors asked point) where
    left_over : Shared files (rest files point.makefile point.frames point.state) (rest files point.makefile point.frames point.state)
    left_over = shared-rest files point.makefile point.frames point.state

    abbrev goal_end : Result (EvalState × Meter) (FaultAt × Meter)
    goal_end = left_over.ends point.meter

    so : EndsSo (files, settings) name flavors (asked ++ left_over.asks point.meter) goal_end
    so = record {
      ends = λ limit log low inside.
          let onward : point.meter.spent ≤ (left goal_end).spent = left_over.steady.onward point.meter in
          let reached : point.meter.spent ≤ limit = omega (arith, onward, low) in
          let below : limit ≤ point.meter.limit = omega (arith, has.limit, inside) in
          has.ends limit log reached inside
          ∙ left_over.is (limited limit point.meter) (with_asked log asked)
          ∙ ap (λ asked'. beside (with_asked (with_asked log asked) asked') (left_over.ends (limited limit point.meter)))
          (left_over.same point.meter limit below low)
          ∙ ap (beside (with_asked (with_asked log asked) (left_over.asks point.meter)))
          (left_over.steady.lower point.meter limit below low)
          ∙ lowered-is limit (with_asked (with_asked log asked) (left_over.asks point.meter)) goal_end
          ∙ ap (λ log. beside log (limited_end goal_end limit)) (with-both log asked (left_over.asks point.meter));
      within =
          let fits : point.meter.spent ≤ point.meter.limit = omega (arith, has.limit, has.within) in
          omega (arith, left_over.steady.within point.meter fits, has.limit);
    }

    pub cheap : point.meter.spent ≤ cost_of (means (files, settings) name flavors)
    cheap =
        omega (
          arith,
          left_over.steady.onward point.meter,
          cost-end files settings name flavors
              (asked ++ left_over.asks point.meter) goal_end so,
        )

    pub first : (more : List Question) × (questions_of files settings name flavors ≡ asked ++ more)
    first = (left_over.asks point.meter, asks-end files settings name flavors (asked ++ left_over.asks point.meter) goal_end so)

    -- the same in a budget of what was spent: at that limit, the evaluation comes to this point too
    pub first-spent : (more : List Question) × (questions_asked (files, settings) name flavors point.meter.spent ≡ asked ++ more)
    first-spent =
        let m : Meter = limited point.meter.spent point.meter in (
          left_over.asks m,
          ap (λ (r : Result (EvalState × Account) (FaultAt × Account)). unwrap_or (left r).log [])
              (has.ends point.meter.spent (Some []) (omega arith) has.within ∙ left_over.is m (Some asked))
              ∙ ap (λ log. unwrap_or log []) (log-beside (Some (asked ++ left_over.asks m)) (left_over.ends m)),
        )
