-- What is taken from the evaluation of a port's makefile.
use Rattle.std.proofs.Common.{◌≡◌, ◌≤◌, ◌<◌, inr, ◌∙◌, ℕ, zero, suc, ◌+◌, ◌-◌, ◌*◌, ◌^◌, min, List, length, Option, Some, Result, Ok, Err}
use Rattle.std.proofs.Common.{refl, sym, ap, subst, arith}
use Rattle.std.specs.Prelude.{option_map, option_to_list, unwrap_or}
use Rattle.mk_paths.specs.Place.{place}
use Rattle.mk_paths.specs.World.{World, FileMap, files_in}
use Rattle.mk_eval.specs.Meaning.{means}
use Rattle.mk_eval.specs.Agreement.{cost_of}
use Rattle.mk_eval.specs.declared.outcome.Evaluated.{Evaluated}
use Rattle.mk_eval.specs.declared.outcome.Failed.{Failed}
use Rattle.mk_eval.specs.declared.outcome.Kind.{Kind}
use Rattle.mk_eval.specs.declared.outcome.Kind.TheVariants as kinds
use Rattle.read_trace.specs.declared.evaluation.Evaluation.{Evaluation}
use Rattle.eval_cache.specs.Keys.{Key, key_for}
use Rattle.eval_cache.specs.Right.{evaluation_of}
use Rattle.pkg_path.specs.Paths.{PathValue}
use Rattle.port_index.specs.Pairs.{Pair}
use Rattle.port_index.specs.Spent.{evaluation_cost, evaluations_of, ChecksFew, SpendsOnOne}
use Rattle.turn_amounts.specs.declared.spent.Spent.{Spent}
use Rattle.plain_service.specs.Answers.{answer_to, reply_after}
use Rattle.plain_service.specs.Requests.{Answer, reply_alone}
use Rattle.plain_service.specs.PortReplies.{variable_at, port_at}
use Rattle.plain_service.specs.AnswerCosts.{pair_of, path_asked, port_cost_at, cost_after, cost_by, with_record}
use Rattle.plain_service.specs.Spent.{SpendsFor, StaysWithin}
use Rattle.ports_http.specs.Messages.{ReplyMessage}
use Rattle.turn_amounts.specs.declared.TheConstants.{MOST_CHECKS, TURN_UNITS}
use Rattle.turn_amounts.specs.Spent.{IsUpFrom, total_of}
use Rattle.eval_ask.specs.Ask.{AsksOn, EvaluatesInTime, HasComeTo, HasLooked, IsAnswerTo, IsShort, AskingSpends, spent_in, spent_less_saved}
use Rattle.eval_ask.proofs.AnswerLemmas.{few-come, in-time-looked, short-looked}
use Rattle.index_keep.specs.Turns.{RefreshView}
use Rattle.eval_ask.specs.declared.ask.AskTurned.{AskTurned}
use Rattle.eval_ask.specs.declared.ask.AskTurned.TheVariants.{More, Done}
use Rattle.eval_ask.specs.declared.ask.Asked.{Asked}
use Rattle.question_turns.specs.declared.port_ask.PortAsk.{PortAsk}
use Rattle.question_turns.specs.declared.under_way.Stage.TheVariants.{Evaluating}
use Rattle.plain_service.specs.declared.port_routes.PortQuestion.{PortQuestion}
use Rattle.plain_service.specs.declared.port_routes.PortQuestion.TheVariants.{Variable, Record}
use Rattle.question_turns.specs.PortAsk.{IsPortAsk}
use Rattle.plain_service.specs.declared.questions.Question.TheVariants.{OfPort}
use Rattle.question_turns.specs.UnderWay.{ActsForValue, IsReplyToQuestion, LeavesOpen, RepliesInTime}

abbrev pub pair_with : PathValue → List ℕ → Pair
pair_with path makefile = record { makefile = makefile; flavors = path.flavors }

-- the reply to what is asked, after an evaluation of the makefile that is there
pub answered : (world : World) (question : PortQuestion) (makefile : List ℕ) → place world (path_asked question).directory ≡ Some makefile
    → ◌≡◌ {A = Answer} (reply_alone (reply_after question makefile (means world makefile (path_asked question).flavors)))
    (answer_to world (OfPort question))
answered world (Variable asked) makefile placed = sym (ap (λ p. reply_alone (variable_at world asked.name asked.path.flavors p)) placed)
answered world (Record path) makefile placed = sym (ap (λ p. reply_alone (port_at world path p)) placed)

-- what is spent on the evaluation of the makefile that is there, and on what is asked
pub spends : (world : World) (question : PortQuestion) (makefile : List ℕ) (spent : Spent)
    → place world (path_asked question).directory ≡ Some makefile
    → SpendsOnOne (cost_after question makefile (means world makefile (path_asked question).flavors))
    (cost_of (means world makefile (path_asked question).flavors)) 1 spent
    → SpendsFor world (OfPort question) spent
spends world question makefile spent placed is =
    subst (λ p. SpendsOnOne (unwrap_or (option_map (cost_by world question) p) 0)
    (evaluation_cost world (option_map (pair_with (path_asked question)) p))
    (evaluations_of (option_map (pair_with (path_asked question)) p)) spent) (sym placed) is

with_more : (most units cost more : ℕ) → units ≤ most → units ≤ cost → units ≤ min (cost + more) most
with_more most units cost more small less = omega (arith, small, less)

kind_covers : (kind : Kind) (units cost more : ℕ) → units ≤ 2 ^ 64 - 1 → units ≤ cost → units ≤ with_record kind cost more
kind_covers kinds.Port units cost more small less = with_more (2 ^ 64 - 1) units cost more small less
kind_covers kinds.List units cost more small less = less
kind_covers kinds.Other units cost more small less = less

-- the evaluation costs no more than what is asked costs with it
pub covers : (question : PortQuestion) (makefile : List ℕ) (outcome : Result Evaluated Failed) (units : ℕ) → units ≤ 2 ^ 64 - 1
    → units ≤ cost_of outcome
    → units ≤ cost_after question makefile outcome
covers (Variable asked) makefile (Ok evaluated) units small less = with_more (2 ^ 64 - 1) units evaluated.cost _ small less
covers (Record path) makefile (Ok evaluated) units small less = kind_covers evaluated.kind units evaluated.cost _ small less
covers question makefile (Err failed) units small less = less

one_few : (checks : ℕ) → checks ≤ MOST_CHECKS → checks ≤ MOST_CHECKS * 1
one_few checks few = omega (arith, few)

-- so what is spent on the evaluation stays within what is asked costs
pub stays : (world : World) (question : PortQuestion) (makefile : List ℕ) (spent : Spent)
    → place world (path_asked question).directory ≡ Some makefile
    → spent.units ≤ cost_after question makefile (means world makefile (path_asked question).flavors) → spent.checks ≤ MOST_CHECKS
    → StaysWithin world (OfPort question) spent
stays world question makefile spent placed less few = record {
  units = subst (λ p. spent.units ≤ unwrap_or (option_map (cost_by world question) p) 0) (sym placed) less;
  checks = subst (λ p. ChecksFew (length (option_to_list (option_map (pair_with (path_asked question)) p))) spent.checks) (sym placed)
      (one_few spent.checks few);
}

-- what is asked costs this, if this is its makefile
port_cost : (world : World) (question : PortQuestion) (makefile : List ℕ) → place world (path_asked question).directory ≡ Some makefile
    → port_cost_at world question ≡ cost_after question makefile (means world makefile (path_asked question).flavors)
port_cost world question makefile placed = ap (λ p. unwrap_or (option_map (cost_by world question) p) 0) placed

-- and rests on it
pub pair-there : (world : World) (path : PathValue) (makefile : List ℕ) → place world path.directory ≡ Some makefile
    → pair_of world path ≡ Some (pair_with path makefile)
pair-there world path makefile placed = ap (option_map (pair_with path)) placed

-- few answers were checked before an evaluation began
pub few_in : (files : FileMap) (key : Key) (came : AskTurned) → HasComeTo files key came → (spent_in came).checks ≤ MOST_CHECKS
few_in files key (More ask) is = is.1.few
few_in files key (Done asked) is = is.few

-- a turn that has spent its units
pub acts : (question : PortQuestion) (before after : Spent) → total_of before + TURN_UNITS ≤ total_of after
    → ActsForValue (OfPort question) before after
acts (Variable asked) before after more = more
acts (Record path) before after more = tt

-- an evaluation that went on after a look in the same turn, by what was left of the turn's units
module _ (world : World) (question : PortQuestion) (before : Spent) (ask : PortAsk) (came : AskTurned) (given : ℕ)
    (is : IsPortAsk world (path_asked question) ask)
    (looked : HasLooked before ask.came) (up : IsUpFrom before (spent_in ask.came))
    (given_is : given ≡ TURN_UNITS - (((spent_in ask.came).units - before.units) + ((spent_in ask.came).checks - before.checks)))
    (asks : AsksOn (files_in world) given ask.came came) where
  abbrev port_key : Key
  port_key = key_for world.1 ask.makefile (path_asked question).flavors

  pub in-time-on : EvaluatesInTime world (pair_of world (path_asked question)) TURN_UNITS before (spent_in came)
  in-time-on =
      subst (λ (pair : Option Pair). EvaluatesInTime world pair TURN_UNITS before (spent_in came))
      (sym (pair-there world (path_asked question) ask.makefile is.placed))
      (in-time-looked world before (spent_in ask.came) (spent_in came) TURN_UNITS given looked.units up.checks given_is asks.unchecked
      (Some (pair_with (path_asked question) ask.makefile)) (asks.in_time port_key is.came))

  pub few-on : IsShort TURN_UNITS before (spent_in came)
  few-on =
      short-looked world before (spent_in ask.came) (spent_in came) TURN_UNITS given looked.units up.checks given_is asks.unchecked
      (Some (pair_with (path_asked question) ask.makefile))
      (few-come (files_in world) port_key came (asks.comes port_key is.came)).0 looked.checks (asks.in_time port_key is.came)

-- an evaluation that isn't at its end, or waits for the next turn
pub goes_on : (world : World) (refresh : RefreshView) (question : PortQuestion) (ask : PortAsk) (before evaluated : Spent)
    → IsPortAsk world (path_asked question) ask
    → evaluated ≡ spent_in ask.came → evaluated.units ≤ 2 ^ 64 - 1
    → evaluated.units ≤ cost_of (evaluation_of (files_in world) (key_for world.1 ask.makefile (path_asked question).flavors)).outcome
    → IsUpFrom before evaluated → total_of before + TURN_UNITS ≤ total_of evaluated
    → EvaluatesInTime world (pair_of world (path_asked question)) TURN_UNITS before evaluated
    → LeavesOpen world refresh (OfPort question) before (record { stage = Evaluating question ask; spent = evaluated })
goes_on world refresh question ask before evaluated is so_far small within up more in_time = record {
  in_time = in_time;
  same = refl;
  pending = (is, so_far);
  up = up;
  within = stays world question ask.makefile evaluated is.placed
      (covers question ask.makefile (means world ask.makefile (path_asked question).flavors) evaluated.units small within)
      (subst (λ (s : Spent). s.checks ≤ MOST_CHECKS) (sym so_far) (few_in (files_in world) _ ask.came is.came));
  acts = acts question before evaluated more;
}

saved_less : (before units evaluation cost : ℕ) → before ≤ units → (1 ≤ units → units ≡ evaluation) → units ≤ cost
    → before ≤ cost - (evaluation - units)
saved_less before zero evaluation cost less whole fits = omega (arith, less)
saved_less before (suc units) evaluation cost less whole fits =
    let all : suc units ≡ evaluation = whole (omega arith) in
    omega (arith, less, fits, all)

-- the reply was made of an evaluation at its end
module _ (world : World) (question : PortQuestion) (makefile : List ℕ) (asked : Asked)
    (placed : place world (path_asked question).directory ≡ Some makefile)
    (is : IsAnswerTo (files_in world) (key_for world.1 makefile (path_asked question).flavors) asked) where
  outcome_is : asked.evaluation.value.outcome ≡ means world makefile (path_asked question).flavors
  outcome_is = ap (λ (e : Evaluation). e.outcome) is.evaluation

  module _ (cost : ℕ) (cost_is : cost ≡ cost_after question makefile asked.evaluation.value.outcome) where
    cost_all : cost ≡ cost_after question makefile (means world makefile (path_asked question).flavors)
    cost_all = cost_is ∙ ap (cost_after question makefile) outcome_is

    pub made-answers : (reply : ReplyMessage) → reply ≡ reply_after question makefile asked.evaluation.value.outcome
        → IsReplyToQuestion world (OfPort question) reply
    made-answers reply made =
        ap reply_alone made
        ∙ ap (λ outcome. reply_alone (reply_after question makefile outcome)) outcome_is ∙ answered world question makefile placed

    pub made-spends : AskingSpends → SpendsFor world (OfPort question) (spent_less_saved asked cost)
    made-spends law =
        spends world question makefile (spent_less_saved asked cost) placed
        (subst (λ n. SpendsOnOne n (cost_of (means world makefile (path_asked question).flavors)) 1 (spent_less_saved asked cost)) cost_all
        (law (files_in world) _ asked cost is))

    pub made-up : (before : Spent) → asked.units ≤ 2 ^ 64 - 1 → IsUpFrom before (spent_in (Done asked))
        → IsUpFrom before (spent_less_saved asked cost)
    made-up before small up = record {
      units = saved_less before.units asked.units (cost_of asked.evaluation.value.outcome) cost up.units
          (λ some. is.whole some ∙ ap cost_of (sym outcome_is))
          (subst (λ n. asked.units ≤ n) (sym cost_is) (covers_asked asked.units refl));
      checks = up.checks;
    }
      where
        covers_asked : (units : ℕ) → units ≡ asked.units → asked.units ≤ cost_after question makefile asked.evaluation.value.outcome
        covers_asked zero none = omega (arith, none)
        covers_asked (suc units) some =
            let all = is.whole (omega (arith, some)) in
            covers question makefile asked.evaluation.value.outcome asked.units small (omega (arith, all, ap cost_of outcome_is))

    made_low : (all evaluation own_cost own_evaluation : ℕ) (before : Spent) → all ≡ own_cost → evaluation ≡ own_evaluation
        → total_of (spent_in (Done asked)) < total_of before + TURN_UNITS
        → (all - (evaluation - asked.units)) + asked.checks < (total_of before + TURN_UNITS) + (own_cost - own_evaluation)
    made_low all evaluation own_cost own_evaluation before same one less = omega (arith, same, one, less)

    -- and made in time
    pub made-in-time : (before : Spent) → total_of (spent_in (Done asked)) < total_of before + TURN_UNITS
        → RepliesInTime world question before (spent_less_saved asked cost)
    made-in-time before less =
        inr (made_low cost (cost_of asked.evaluation.value.outcome) (port_cost_at world question)
        (evaluation_cost world (pair_of world (path_asked question))) before
        (cost_all ∙ sym (port_cost world question makefile placed)) (ap cost_of outcome_is
        ∙ ap (evaluation_cost world) (sym (pair-there world (path_asked question) makefile placed))) less)

    less_cost : (evaluation units : ℕ) → cost - (evaluation - units) ≤ cost
    less_cost evaluation units = omega arith

    pub made-within : StaysWithin world (OfPort question) (spent_less_saved asked cost)
    made-within =
        stays world question makefile (spent_less_saved asked cost) placed
        (subst (λ n. (spent_less_saved asked cost).units ≤ n) cost_all (less_cost (cost_of asked.evaluation.value.outcome) asked.units))
        is.few
