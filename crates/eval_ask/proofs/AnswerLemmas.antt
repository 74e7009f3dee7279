-- What an evaluation that is asked for has come to.
use Rattle.std.proofs.Common.{◌≡◌, ◌≤◌, ◌⊎◌, ◌+◌, ◌-◌, ◌++◌, ◌∙◌, ap, arith, inl, inr, refl, subst, sym, ℕ, zero, suc, Option, None, Some}
use Rattle.std.proofs.Common.{Result, Ok, Err}
use Rattle.mk_base.specs.declared.budget.TheConstants.{UNITS}
use Rattle.turn_amounts.specs.declared.TheConstants.{MOST_CHECKS}
use Rattle.mk_paths.specs.World.{FileMap, World}
use Rattle.mk_eval.specs.Agreement.{cost_of}
use Rattle.mk_base.specs.FaultAt.{FaultAt}
use Rattle.mk_base.specs.Meter.{full}
use Rattle.mk_base.specs.Outcome.{left}
use Rattle.mk_files.specs.Questions.{Account}
use Rattle.mk_eval.specs.Meaning.{evaluated, evaluation, unspent_account}
use Rattle.mk_eval.specs.declared.state.EvalState.{EvalState}
use Rattle.mk_eval.proofs.SharedEvaluation.{shared-evaluation}
use Rattle.mk_step.specs.Machine.{StateAndFrames, advance}
use Rattle.mk_step.specs.Points.{Point, point_before}
use Rattle.mk_step.specs.Turn.{IsLastDone, StopsInTime}
use Rattle.mk_step.specs.Views.{point_of}
use Rattle.mk_step.proofs.Coming.{come-on, spends}
use Rattle.mk_step.proofs.SharedSteps.{shared-advance}
use Rattle.eval_cache.specs.Keys.{Key}
use Rattle.eval_cache.specs.Right.{evaluation_of}
use Rattle.port_index.specs.Pairs.{Pair}
use Rattle.port_index.specs.Spent.{SpendsOnOne}
use Rattle.read_trace.specs.declared.evaluation.Evaluation.{Evaluation}
use Rattle.turn_amounts.specs.declared.spent.Spent.{Spent}
use Rattle.eval_ask.specs.Ask.{key_in, pair_for, spent_in, spent_less_saved, spent_so_far, IsAskUnderWay, HasComeTo, IsAnswerTo, IsAskIn}
use Rattle.eval_ask.specs.Ask.{EvaluatesInTime, IsLastThing, IsShort, TurnsAsk, TellsWhole}
use Rattle.eval_ask.specs.declared.ask.Ask.{Ask}
use Rattle.eval_ask.specs.declared.ask.Looked.{Looked}
use Rattle.eval_ask.specs.declared.ask.Asked.{Asked}
use Rattle.eval_ask.specs.declared.ask.AskTurned.{AskTurned}
use Rattle.eval_ask.specs.declared.ask.AskTurned.TheVariants as ask

-- what was spent is no more than the evaluation costs
pub within-answer : (files : FileMap) (key : Key) (asked : Asked) → IsAnswerTo files key asked
    → asked.units ≤ cost_of (evaluation_of files key).outcome
within-answer files key asked is = within_by (cost_of (evaluation_of files key).outcome) asked.units is.whole
  where
    within_by : (cost units : ℕ) → (1 ≤ units → units ≡ cost) → units ≤ cost
    within_by cost zero all = omega arith
    within_by cost (suc units) all = omega (arith, all (omega arith))

cost_left : (end : Result (EvalState × Account) (FaultAt × Account)) → cost_of (evaluated end) ≡ (left end).meter.spent
cost_left (Ok end) = refl
cost_left (Err end) = refl

-- an evaluation costs few units
pub cost-within : (files : FileMap) (key : Key) → cost_of (evaluation_of files key).outcome ≤ UNITS
cost-within files key =
    let end : Result (EvalState × Account) (FaultAt × Account) = evaluation (files, key.settings) key.name key.flavors
    (unspent_account UNITS None) in
    let shared = shared-evaluation files files key.settings key.name key.flavors in
    omega (arith, cost_left end, spends shared (full UNITS) None end refl, shared.steady.within (full UNITS) (omega arith))

pub can-go-on : (files : FileMap) (key : Key) (turned : AskTurned) → HasComeTo files key turned → IsAskUnderWay files turned
can-go-on files key (ask.More new) come = come.1
can-go-on files key (ask.Done asked) come = tt

-- little is spent on an evaluation
pub few-come : (files : FileMap) (key : Key) (turned : AskTurned) → HasComeTo files key turned → ((spent_in turned).units ≤ UNITS)
    × ((spent_in turned).checks ≤ MOST_CHECKS)
few-come files key (ask.More new) come = (come.1.under.within, come.1.few)
few-come files key (ask.Done asked) come = (omega (arith, within-answer files key asked come, cost-within files key), come.few)

-- the last thing that was done in a turn is one of the evaluation
module _ (files : FileMap) (units spent : ℕ) (old : Ask) (is : IsAskIn files old) (all : spent ≤ UNITS) where
  last-thing : IsLastDone files units (point_of old.machine) spent → IsLastThing (files, (key_in old).settings) (pair_for (key_in old))
      units old.machine.budget.spent spent
  last-thing last =
      let next : Point = point_before last.makefile last.frame last.others last.state last.account in
      let end : Result (StateAndFrames × Account) (FaultAt × Account) = advance files last.makefile last.frame last.others
      last.state last.account in
      let shared = shared-advance files last.makefile last.frame last.others last.state in
      let onward : last.account.meter.spent ≤ spent =
      omega (arith, shared.steady.onward last.account.meter, spends shared last.account.meter last.account.log end refl, last.leaves) in
      record {
        makefile = last.makefile;
        frame = last.frame;
        others = last.others;
        state = last.state;
        account = last.account;
        asked = old.trace ++ last.asked;
        comes = come-on (files, (key_in old).settings) (key_in old).name (key_in old).flavors old.trace last.asked
            (point_of old.machine) next
            (omega (arith, onward, all, last.comes.later.limit, is.under.limit)) is.under last.comes;
        since = last.comes.later.spent;
        low = last.low;
        leaves = last.leaves;
      }

  stops-in-time : StopsInTime files units (point_of old.machine) spent
      → (spent ≡ old.machine.budget.spent) ⊎ IsLastThing (files, (key_in old).settings) (pair_for (key_in old)) units
      old.machine.budget.spent spent
  stops-in-time stops = elim stops.last [ inl none ↦ inl none | inr last ↦ inr (last-thing last) ]

none_checked : (units before after : ℕ) → after ≡ before → units ≡ units - (after - before)
none_checked units before after same = omega (arith, same)

-- no answer is checked in a turn
pub unchecked-turn : (files : FileMap) (units : ℕ) (old : Ask) (came : AskTurned) → TurnsAsk files units old came
    → (spent_in came).checks ≡ (spent_so_far old).checks
unchecked-turn files units old (ask.More new) turns = ap (λ (looked : Looked). looked.checks) turns.0
unchecked-turn files units old (ask.Done asked) turns = turns.0.checks

-- a turn of an evaluation stops in time
pub in-time : (files : FileMap) (key : Key) (units : ℕ) (old : Ask) (came : AskTurned) → HasComeTo files key (ask.More old)
    → TurnsAsk files units old came
    → EvaluatesInTime (files, key.settings) (Some (pair_for key)) units (spent_so_far old) (spent_in came)
in-time files key units old came come turns =
    subst (λ (k : Key). EvaluatesInTime (files, k.settings) (Some (pair_for k)) units (spent_so_far old) (spent_in came)) come.0
    (subst (λ (n : ℕ). ((spent_in came).units ≡ old.machine.budget.spent) ⊎ IsLastThing (files, (key_in old).settings)
    (pair_for (key_in old)) n old.machine.budget.spent (spent_in came).units)
    (none_checked units old.looked.checks (spent_in came).checks (unchecked-turn files units old came turns)) (stops came turns))
  where
    stops : (came : AskTurned) → TurnsAsk files units old came
        → ((spent_in came).units ≡ old.machine.budget.spent) ⊎ IsLastThing (files, (key_in old).settings) (pair_for (key_in old)) units
        old.machine.budget.spent (spent_in came).units
    stops (ask.More new) turns = stops-in-time files units new.machine.budget.spent old come.1 turns.1.under.within turns.3
    stops (ask.Done asked) turns = stops-in-time files units asked.units old come.1
        (omega (arith, turns.0.units, cost-within files (key_in old))) turns.1

-- one that was under way tells all that it costs
pub whole-turn : (files : FileMap) (units : ℕ) (old : Ask) (came : AskTurned) → TurnsAsk files units old came
    → TellsWhole (ask.More old) came
whole-turn files units old (ask.More new) turns = tt
whole-turn files units old (ask.Done asked) turns = turns.0.units ∙ sym (ap (λ (e : Evaluation). cost_of e.outcome) turns.0.evaluation)

-- ---- a turn that goes on with an evaluation, after a look in the same turn

-- what is given is what is left of the units
module _ (world : World) (before middle after : Spent) (units given : ℕ) (same : middle.units ≡ before.units)
    (up : before.checks ≤ middle.checks)
    (given_is : given ≡ units - ((middle.units - before.units) + (middle.checks - before.checks)))
    (unchecked : after.checks ≡ middle.checks) where
  pub in-time-looked : (pair : Option Pair) → EvaluatesInTime world pair given middle after → EvaluatesInTime world pair units before after
  in-time-looked None in_time = in_time
  in-time-looked (Some pair) in_time = elim in_time [
    | inl none ↦ inl (none ∙ same)
    | inr last ↦ inr (record {
      makefile = last.makefile;
      frame = last.frame;
      others = last.others;
      state = last.state;
      account = last.account;
      asked = last.asked;
      comes = last.comes;
      since = omega (arith, same, last.since);
      low = omega (arith, same, up, given_is, unchecked, last.low);
      leaves = last.leaves;
    })
  ]

  -- little is spent then
  pub short-looked : (pair : Option Pair) → after.units ≤ UNITS → middle.checks ≤ before.checks + MOST_CHECKS
      → EvaluatesInTime world pair given middle after → IsShort units before after
  short-looked None few looked in_time = absurd in_time
  short-looked (Some pair) few looked in_time = elim in_time [
    | inl none ↦ omega (arith, same, none, looked, unchecked, few)
    | inr last ↦ omega (arith, few, unchecked, given_is, up, last.since, last.low)
  ]

-- what is spent on an evaluation and on what is made of it
spent_by : (cost evaluation units checks : ℕ) → (1 ≤ units → units ≡ evaluation) → (checks ≡ 0 → units ≡ evaluation)
    → (cost - (evaluation - units) ≡ cost) ⊎ ((1 ≤ checks) × (cost - (evaluation - units) ≡ cost - evaluation))
spent_by cost evaluation units zero whole unchecked = inl (omega (arith, unchecked refl))
spent_by cost evaluation zero (suc checks) whole unchecked = inr (omega arith, omega arith)
spent_by cost evaluation (suc units) (suc checks) whole unchecked = inl (omega (arith, whole (omega arith)))

pub SpendsOnOne-answer : (files : FileMap) (key : Key) (asked : Asked) (cost : ℕ) → IsAnswerTo files key asked
    → SpendsOnOne cost (cost_of (evaluation_of files key).outcome) 1 (spent_less_saved asked cost)
SpendsOnOne-answer files key asked cost is = record {
  few = omega (arith, is.few);
  paid = subst (λ (n : ℕ). (cost - (n - asked.units) ≡ cost)
      ⊎ ((1 ≤ asked.checks) × (cost - (n - asked.units) ≡ cost - cost_of (evaluation_of files key).outcome)))
      (sym (ap (λ (e : Evaluation). cost_of e.outcome) is.evaluation))
      (spent_by cost (cost_of (evaluation_of files key).outcome) asked.units asked.checks is.whole is.unchecked);
}
