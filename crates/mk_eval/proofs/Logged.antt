-- What an evaluation means doesn't depend on a log, what it leaves in one is what the definition asks under a budget of its cost, and every
-- world that answers the same means the same.
use Rattle.std.proofs.Common.{◌≡◌, ◌≤◌, ◌∙◌, ◌++◌, ℕ, List, [], Option, Some, None, unwrap_or, Result, Ok, Err, refl, sym, ap, subst, arith}
use Rattle.mk_base.specs.declared.budget.TheConstants.{UNITS}
use Rattle.mk_base.specs.FaultAt.{FaultAt}
use Rattle.mk_base.specs.Meter.{Meter, full}
use Rattle.mk_base.specs.Outcome.{left}
use Rattle.mk_paths.specs.FilesView.{Question, FilesView, noted}
use Rattle.mk_paths.specs.World.{FileMap}
use Rattle.mk_paths.specs.declared.search_path.Settings.{Settings}
use Rattle.mk_files.specs.Questions.{Account, beside}
use Rattle.mk_files.specs.AfterQuestions.{AfterQuestions}
use Rattle.mk_eval.specs.declared.state.EvalState.{EvalState}
use Rattle.mk_eval.specs.Meaning.{evaluation, evaluated, unspent_account, means, questions_asked}
use Rattle.mk_eval.specs.Agreement.{Agrees, cost_of, questions_of, IsTheSameWhereAnswered}
use Rattle.mk_eval.proofs.Shared.{Shared, with_questions}
use Rattle.mk_eval.proofs.SharedEvaluation.{shared-evaluation}

evaluated-beside : (one other : Option (List Question)) (r : Result (EvalState × Meter) (FaultAt × Meter))
    → evaluated (beside one r) ≡ evaluated (beside other r)
evaluated-beside one other (Ok end) = refl
evaluated-beside one other (Err end) = refl

log-beside : (log : Option (List Question)) (r : Result (EvalState × Meter) (FaultAt × Meter)) → (left (beside log r)).log ≡ log
log-beside log (Ok end) = refl
log-beside log (Err end) = refl

meter-beside : (log : Option (List Question)) (r : Result (EvalState × Meter) (FaultAt × Meter)) → (left (beside log r)).meter ≡ left r
meter-beside log (Ok end) = refl
meter-beside log (Err end) = refl

cost-beside : (log : Option (List Question)) (r : Result (EvalState × Meter) (FaultAt × Meter))
    → cost_of (evaluated (beside log r)) ≡ (left r).spent
cost-beside log (Ok end) = refl
cost-beside log (Err end) = refl

-- an evaluation among some files, and the same among others
module _ (files other : FileMap) (settings : Settings) (name : List ℕ) (flavors : Option (List (List ℕ))) where
  both : Shared other (evaluation (files, settings) name flavors) (evaluation (other, settings) name flavors)
  both = shared-evaluation files other settings name flavors

  -- the units that are spent under the whole budget
  abbrev spending : ℕ
  spending = (left (both.ends (full UNITS))).spent

  asked-is : (limit : ℕ) → questions_asked (files, settings) name flavors limit ≡ both.asks (full limit)
  asked-is limit =
      ap (λ (end : Result (EvalState × Account) (FaultAt × Account)). unwrap_or (left end).log []) (both.is (full limit) (Some []))
      ∙ ap (λ log. unwrap_or log []) (log-beside (Some ([] ++ both.asks (full limit))) (both.ends (full limit)))

  -- under the whole budget the same is asked as under one of what is spent
  asked-whole : both.asks (full UNITS) ≡ questions_asked (files, settings) name flavors spending
  asked-whole =
      let few : spending ≤ UNITS = both.steady.within (full UNITS) (omega arith) in
      sym (both.same (full UNITS) spending few (omega arith)) ∙ sym (asked-is spending)

  cost-is : cost_of (means (files, settings) name flavors) ≡ spending
  cost-is = ap (λ end. cost_of (evaluated end)) (both.is (full UNITS) None) ∙ cost-beside (with_questions None (both.asks (full UNITS)))
      (both.ends (full UNITS))

  module _ (agrees : Agrees other (questions_of files settings name flavors)) where
    ends-alike : evaluation (other, settings) name flavors (unspent_account UNITS None) ≡ evaluation (files, settings) name flavors
        (unspent_account UNITS None)
    ends-alike = both.shared (full UNITS) None (subst (Agrees other) (ap (questions_asked (files, settings) name flavors) cost-is
        ∙ sym asked-whole) agrees)

    means-alike : means (other, settings) name flavors ≡ means (files, settings) name flavors
    means-alike = ap evaluated ends-alike

    -- with the same cost, the same is asked under it
    abbrev cost : ℕ
    cost = cost_of (means (files, settings) name flavors)

    asked-alike : questions_asked (other, settings) name flavors cost ≡ questions_asked (files, settings) name flavors cost
    asked-alike =
        ap (λ (end : Result (EvalState × Account) (FaultAt × Account)). unwrap_or (left end).log [])
        (both.shared (full cost) (Some []) (subst (Agrees other) (asked-is cost) agrees))

    questions-alike : questions_of other settings name flavors ≡ questions_of files settings name flavors
    questions-alike = ap (λ known. questions_asked (other, settings) name flavors (cost_of known)) means-alike ∙ asked-alike

pub same-where-answered : IsTheSameWhereAnswered
same-where-answered files other settings name flavors agrees = (
  means-alike files other settings name flavors agrees,
  questions-alike files
      other settings name flavors agrees,
)

-- what is known of the log, and that nothing but questions were asked, says what is left of the files
pub noted-by : (old new : FilesView) (questions : List Question) → AfterQuestions old new → new.log ≡ with_questions old.log questions
    → new ≡ noted old questions
noted-by old new questions asked log = asked.in_log ∙ ap (λ log. record old { log = log })
    (sym (ap (λ (world : FilesView). world.log) asked.in_log) ∙ log)
