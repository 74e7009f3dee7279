-- Evaluations and values cost no more than their budgets.
use Rattle.std.proofs.Common.{◌≡◌, ◌≤◌, ◌∙◌, ℕ, Bool, true, false, if◌then◌else◌, List, Option, None, is_some, Result, Ok, Err, refl, sym}
use Rattle.std.proofs.Common.{ap, subst, arith}
use Rattle.mk_base.specs.declared.faults.FaultKind.{FaultKind}
use Rattle.mk_base.specs.declared.budget.TheConstants.{UNITS}
use Rattle.mk_base.specs.FaultAt.{FaultAt}
use Rattle.mk_base.specs.Meter.{Meter, full}
use Rattle.mk_base.specs.Outcome.{left, tell}
use Rattle.mk_env.specs.Expansion.{variable}
use Rattle.mk_env.specs.Texts.{Variables, text_in}
use Rattle.mk_files.specs.Questions.{beside}
use Rattle.mk_paths.specs.World.{World}
use Rattle.mk_eval.specs.Costs.{CostFew, value_units}
use Rattle.mk_eval.specs.Meaning.{evaluated, means, value_of_variable, valued, at}
use Rattle.mk_eval.specs.Agreement.{cost_of}
use Rattle.mk_eval.specs.declared.state.EvalState.{EvalState}
use Rattle.mk_eval.proofs.Shared.{with_questions}
use Rattle.mk_eval.proofs.SharedEvaluation.{shared-evaluation}
use Rattle.mk_eval.proofs.SteadyTexts.{steady-variable}

beside-costs : (log : _) (r : Result (EvalState × Meter) (FaultAt × Meter)) → cost_of (evaluated (beside log r)) ≡ (left r).spent
beside-costs log (Ok end) = refl
beside-costs log (Err end) = refl

evaluations-few : (world : World) (name : List ℕ) (flavors : Option (List (List ℕ))) → cost_of (means world name flavors) ≤ UNITS
evaluations-few world name flavors =
    let shared = shared-evaluation world.0 world.0 world.1 name flavors in
    let is = ap evaluated (shared.is (full UNITS) None) in
    let costs = beside-costs (with_questions None (shared.asks (full UNITS))) (shared.ends (full UNITS)) in
    subst (λ (cost : ℕ). cost ≤ UNITS) (sym (ap cost_of is ∙ costs)) (shared.steady.within (full UNITS) (omega arith))

valued-costs : (makefile : List ℕ) (end : Result (List ℕ × Meter) (FaultKind × Meter))
    → value_units (valued (tell (at makefile 0) end)) ≡ (left end).spent
valued-costs makefile (Ok end) = refl
valued-costs makefile (Err end) = refl

module _ (variables : Variables) (makefile name : List ℕ) where
  abbrev work : Result (List ℕ × Meter) (FaultKind × Meter)
  work = variable variables name (full UNITS)

  by-there : (there : Bool) → value_units (if there then valued (tell (at makefile 0) work) else Ok None) ≤ UNITS
  by-there true =
      subst (λ (cost : ℕ). cost ≤ UNITS) (sym (valued-costs makefile work))
      ((steady-variable variables name).within (full UNITS) (omega arith))
  by-there false = omega arith

values-few : (variables : Variables) (makefile name : List ℕ) → value_units (value_of_variable variables makefile name) ≤ UNITS
values-few variables makefile name = by-there variables makefile name (is_some (text_in variables name))

pub cost-few : CostFew
cost-few = record { evaluations = evaluations-few; values = values-few }
