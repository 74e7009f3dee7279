-- An evaluation that is begun and turned once.
use Rattle.std.proofs.Common.{◌≡◌, ◌≤◌, ◌+◌, ◌∙◌, ◌++◌, ℕ, List, [], Option, None, Result, Ok, Err, refl, sym, ap, subst, arith}
use Rattle.mk_base.specs.declared.budget.TheConstants.{UNITS}
use Rattle.mk_base.specs.FaultAt.{FaultAt}
use Rattle.mk_base.specs.Meter.{Meter, full}
use Rattle.mk_base.specs.Outcome.{left}
use Rattle.mk_paths.specs.FilesView.{FilesView, Question, noted, noted-twice}
use Rattle.mk_paths.specs.World.{FileMap}
use Rattle.mk_paths.specs.declared.search_path.Settings.{Settings}
use Rattle.mk_paths.specs.declared.files.FilesFault.{FilesFault}
use Rattle.mk_files.specs.Questions.{beside}
use Rattle.mk_files.specs.AfterQuestions.{LeavesAtStop-on, stop_of}
use Rattle.mk_base.specs.declared.stops.Stop.{Stop}
use Rattle.mk_eval.specs.Meaning.{evaluation, evaluated, means, questions_asked}
use Rattle.mk_eval.specs.Agreement.{cost_of, questions_of}
use Rattle.mk_eval.specs.declared.state.EvalState.{EvalState}
use Rattle.mk_eval.specs.declared.outcome.Evaluated.{Evaluated}
use Rattle.mk_eval.specs.declared.outcome.Failed.{Failed}
use Rattle.mk_eval.proofs.Shared.{Shared, with_questions}
use Rattle.mk_eval.proofs.SharedEvaluation.{shared-evaluation}
use Rattle.mk_step.specs.Turn.{AsksMore, IsUnderWay, TellsIfDone, Leaves, Spends, HasSpent}
use Rattle.mk_step.specs.declared.machine.Machine.{Machine}
use Rattle.mk_step.specs.declared.machine.Turned.{Turned}
use Rattle.mk_step.specs.declared.machine.Turned.TheVariants.{More, Done}

cost-beside : (log : Option (List Question)) (r : Result (EvalState × Meter) (FaultAt × Meter))
    → cost_of (evaluated (beside log r)) ≡ (left r).spent
cost-beside log (Ok end) = refl
cost-beside log (Err end) = refl

module _ (files : FileMap) (settings : Settings) (name : List ℕ) (flavors : Option (List (List ℕ))) where
  whole : Shared files (evaluation (files, settings) name flavors) (evaluation (files, settings) name flavors)
  whole = shared-evaluation files files settings name flavors

  -- no evaluation costs more than the budget
  pub costs-within : cost_of (means (files, settings) name flavors) ≤ UNITS
  costs-within =
      let cost : cost_of (means (files, settings) name flavors) ≡ (left (whole.ends (full UNITS))).spent =
      ap (λ end. cost_of (evaluated end)) (whole.is (full UNITS) None) ∙ cost-beside (with_questions None (whole.asks (full UNITS)))
      (whole.ends (full UNITS)) in
      omega (arith, cost, whole.steady.within (full UNITS) (omega arith))

module _ (may : FilesFault → Type 0) (old new : FilesView) (settings : Settings) (name : List ℕ) (flavors : Option (List (List ℕ))) where
  -- what a whole evaluation leaves, by what it means
  pub asked-all : (answer : Result Evaluated Failed) → means (old.files, settings) name flavors ≡ answer
      → AsksMore old new (λ more. questions_of old.files settings name flavors ≡ [] ++ more)
      → new ≡ noted old (questions_asked (old.files, settings) name flavors (cost_of answer))
  asked-all answer is leaves =
      leaves.noted ∙ ap (noted old) (sym leaves.so ∙ ap (λ answer. questions_asked (old.files, settings) name flavors (cost_of answer)) is)

  pub costs-as : (answer : Result Evaluated Failed) → means (old.files, settings) name flavors ≡ answer → cost_of answer ≤ UNITS
  costs-as answer is = subst (λ answer. cost_of answer ≤ UNITS) is (costs-within old.files settings name flavors)

  -- a turn after the beginning
  module _ (middle : FilesView) (machine : Machine)
      (begun : AsksMore old middle (λ more. IsUnderWay (old.files, settings) name flavors ([] ++ more) machine)) where
    same-files : middle.files ≡ old.files
    same-files = ap (λ (view : FilesView). view.files) begun.noted

    abbrev pub first : List Question
    first = begun.more

    pub under-way : IsUnderWay (middle.files, settings) name flavors first machine
    under-way = subst (λ files. IsUnderWay (files, settings) name flavors first machine) (sym same-files) begun.so

    joined : (more : List Question) → new ≡ noted middle more → new ≡ noted old (first ++ more)
    joined more is = is ∙ ap (λ view. noted view more) begun.noted ∙ noted-twice old first more

    pub turned-tells : (result : Result Turned FilesFault) → TellsIfDone result (means (middle.files, settings) name flavors)
        → TellsIfDone result (means (old.files, settings) name flavors)
    turned-tells result tells = subst (λ files. TellsIfDone result (means (files, settings) name flavors)) same-files tells

    pub turned-leaves : (result : Result Turned FilesFault) → Leaves may middle new (middle.files, settings) name flavors first result
        → Leaves may old new (old.files, settings) name flavors [] result
    turned-leaves (Ok (More after)) leaves = record {
      more = first ++ leaves.more;
      so = subst (λ files. IsUnderWay (files, settings) name flavors (first ++ leaves.more) after) same-files leaves.so;
      noted = joined leaves.more leaves.noted;
    }
    turned-leaves (Ok (Done answer)) leaves = record {
      more = first ++ leaves.more;
      so = subst (λ files. questions_of files settings name flavors ≡ first ++ leaves.more) same-files leaves.so;
      noted = joined leaves.more leaves.noted;
    }
    turned-leaves (Err fault) leaves =
        let stop : Stop FaultAt = stop_of fault in LeavesAtStop-on may old middle new stop
        (record { questions = first; in_log = begun.noted }) leaves

-- what was spent, once more was spent than at the beginning
pub has-spent : (old units : ℕ) (result : Result Turned FilesFault) → HasSpent (old + units) result → old ≡ 0 → HasSpent units result
has-spent old units (Ok (More machine)) spent none = omega (arith, spent, none)
has-spent old units (Ok (Done answer)) spent none = tt
has-spent old units (Err fault) spent none = tt

pub spends-has : (files : FileMap) (units : ℕ) (old : Machine) (result : Result Turned FilesFault) → Spends files units old result
    → HasSpent (old.budget.spent + units) result
spends-has files units old (Ok (More machine)) spends = spends.0
spends-has files units old (Ok (Done answer)) spends = tt
spends-has files units old (Err fault) spends = tt
