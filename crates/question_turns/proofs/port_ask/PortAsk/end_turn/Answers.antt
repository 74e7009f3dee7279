-- The reply is made of the evaluation, or the evaluation goes on.
use Rattle.std.proofs.Common.{◌≡◌, ◌≤◌, ◌<◌, ◌+◌, ◌-◌, ◌^◌, ◌∙◌, ℕ, List, Some, true, ap, refl, subst, sym, arith}
use Rattle.std.proofs.lemmas.Bool.Decides.{nat_tests}
use Rattle.mk_paths.specs.Place.{place}
use Rattle.mk_paths.specs.World.{World, files_in}
use Rattle.mk_eval.specs.Costs.{CostFew}
use Rattle.mk_eval.specs.Agreement.{cost_of}
use Rattle.read_trace.specs.declared.evaluation.Evaluation.{Evaluation}
use Rattle.port_rules.specs.Records.{RecordsCostFew}
use Rattle.ports_http.specs.Messages.{ReplyMessage}
use Rattle.turn_amounts.specs.declared.spent.Spent.{Spent}
use Rattle.plain_service.specs.Answers.{reply_after}
use Rattle.plain_service.specs.AnswerCosts.{pair_of, path_asked, cost_after}
use Rattle.plain_service.specs.Spent.{SpendsFor, StaysWithin}
use Rattle.plain_service.specs.declared.port_routes.PortQuestion.{PortQuestion}
use Rattle.plain_service.specs.declared.port_routes.PortQuestion.TheVariants.{Variable, Record}
use Rattle.plain_service.specs.declared.questions.Question.TheVariants.{OfPort}
use Rattle.eval_cache.specs.Keys.{key_for}
use Rattle.mk_base.specs.declared.budget.TheConstants.{UNITS}
use Rattle.turn_amounts.specs.declared.TheConstants.{TURN_UNITS}
use Rattle.turn_amounts.specs.Spent.{IsUpFrom, total_of}
use Rattle.eval_ask.specs.Ask.{AskingSpends, EvaluatesInTime, HasComeTo, IsAnswerTo, IsShort, spent_in, spent_less_saved}
use Rattle.eval_ask.specs.declared.ask.Asked.{Asked}
use Rattle.eval_ask.specs.declared.ask.AskTurned.{AskTurned}
use Rattle.eval_ask.specs.declared.ask.AskTurned.TheVariants.{Done}
use Rattle.question_turns.specs.UnderWay.{ActsForValue, IsReplyToQuestion, RepliesInTime, is_of_record}
use Rattle.question_turns.proofs.PortLemmas.{acts, goes_on, made-answers, made-in-time, made-spends, made-up, made-within}
use Rattle.question_turns.proofs.TurnsLemmas.{all-acted, may-act, few-made, fewer-after, most-asked, some-left}
use Rattle.question_turns.proofs.port_ask.PortAsk.end_turn.Goals as goal
use Rattle.question_turns.proofs.port_ask.PortAsk.end_turn.Goals.{else-not-takes_record-via-then-not-takes_record+else-left_of-gt0}
use Rattle.question_turns.proofs.port_ask.PortAsk.end_turn.Goals.{else-not-takes_record-via-else-not-takes_record}

pub returns-then-left_of-eq0-clause-turn : goal.returns-then-left_of-eq0-clause-turn
returns-then-left_of-eq0-clause-turn c = λ world refresh is in_time.
    let before = c.args.before in
    let evaluated = c.spent-evaluated.result in
    let so_far = c.spent-evaluated.ensures.is in
    let up = subst (IsUpFrom before) (sym so_far) c.requires.up in
    let more = all-acted before evaluated c.left_of.result up c.left_of.ensures grind (arith, nat_tests, c.if-left_of-eq0.true) in
    let turned = goes_on world refresh c.args.question c.args.self before evaluated is so_far (omega arith)
    (c.spent-evaluated.ensures.within (files_in world) (key_for world.1 c.args.self.makefile (path_asked c.args.question).flavors) is.came)
    up more
    (subst (EvaluatesInTime world (pair_of world (path_asked c.args.question)) TURN_UNITS before) (sym so_far) in_time) in
    record {
      turned = turned;
      fewer = fewer-after world (OfPort c.args.question) before evaluated more turned.within;
      short = subst (IsShort TURN_UNITS before) (sym so_far) c.requires.few;
    }

-- what was made of an evaluation that is at its end
module _ (world : World) (question : PortQuestion) (makefile : List ℕ) (before : Spent) (came : AskTurned) (asked : Asked)
    (cost : ℕ) (spent : Spent)
    (placed : place world (path_asked question).directory ≡ Some makefile)
    (come : HasComeTo (files_in world) (key_for world.1 makefile (path_asked question).flavors) came)
    (up : IsUpFrom before (spent_in came)) (is : came ≡ Done asked) (small : asked.units ≤ 2 ^ 64 - 1)
    (cost_is : cost ≡ cost_after question makefile asked.evaluation.value.outcome) (spent_is : spent ≡ spent_less_saved asked cost) where
  answer : IsAnswerTo (files_in world) (key_for world.1 makefile (path_asked question).flavors) asked
  answer = subst (HasComeTo (files_in world) (key_for world.1 makefile (path_asked question).flavors)) is come

  made_up : IsUpFrom before spent
  made_up =
      subst (IsUpFrom before) (sym spent_is)
      (made-up world question makefile asked placed answer cost cost_is before small
      (subst (λ (c : AskTurned). IsUpFrom before (spent_in c)) is up))

  made_charged : AskingSpends → SpendsFor world (OfPort question) spent
  made_charged law = subst (SpendsFor world (OfPort question)) (sym spent_is)
      (made-spends world question makefile asked placed answer cost cost_is law)

  made_within : StaysWithin world (OfPort question) spent
  made_within = subst (StaysWithin world (OfPort question)) (sym spent_is)
      (made-within world question makefile asked placed answer cost cost_is)

  made_answers : (reply : ReplyMessage) → reply ≡ reply_after question makefile asked.evaluation.value.outcome
      → IsReplyToQuestion world (OfPort question) reply
  made_answers reply reply_is = made-answers world question makefile asked placed answer cost cost_is reply reply_is

  made_few : CostFew → RecordsCostFew → (evaluated : Spent) → evaluated ≡ spent_in came → total_of evaluated < total_of before + TURN_UNITS
      → IsShort TURN_UNITS before spent
  made_few few records evaluated evaluated_is less =
      subst (IsShort TURN_UNITS before) (sym spent_is)
      (few-made before asked cost (subst (λ (n : ℕ). n ≤ cost_of asked.evaluation.value.outcome + UNITS) (sym cost_is)
      (most-asked few records question makefile asked.evaluation.value.outcome))
      (subst (λ (s : Spent). total_of s < total_of before + TURN_UNITS) (evaluated_is ∙ ap spent_in is) less))

  made_in_time : (evaluated : Spent) → evaluated ≡ spent_in came → total_of evaluated < total_of before + TURN_UNITS
      → RepliesInTime world question before spent
  made_in_time evaluated evaluated_is less =
      subst (RepliesInTime world question before) (sym spent_is)
      (made-in-time world question makefile asked placed answer cost cost_is before
      (subst (λ (s : Spent). total_of s < total_of before + TURN_UNITS) (evaluated_is ∙ ap spent_in is) less))

acts-record : (question : PortQuestion) (before after : Spent) → is_of_record question ≡ true → ActsForValue (OfPort question) before after
acts-record (Variable asked) before after is = absurd cc
acts-record (Record path) before after is = tt

pub left_of-requires-then-not-takes_record : goal.left_of-requires-then-not-takes_record
left_of-requires-then-not-takes_record c =
    let question = c.args.question in
    let makefile = c.args.self.makefile in
    let cost = c.in_ok-reply.ensures.cost ∙ ap (λ (e : Evaluation). cost_after question makefile e.outcome) c.deref.ensures in
    made_up c.requires.begun.world question makefile c.args.before c.args.self.came c.in-Done.asked
    c.in_ok-reply.cost c.spent_on-spent.result
    c.requires.begun.is.placed c.requires.begun.is.came c.requires.up c.in-Done.is (omega arith) cost c.spent_on-spent.ensures

pub returns-then-left_of-gt0-clause-turn : goal.returns-then-left_of-gt0-clause-turn
returns-then-left_of-gt0-clause-turn c = λ world refresh is in_time.
    let question = c.args.question in
    let makefile = c.args.self.makefile in
    let before = c.args.before in
    let came = c.args.self.came in
    let asked = c.in-Done.asked in
    let spent = c.spent_on-spent.result in
    let cost = c.in_ok-reply.ensures.cost ∙ ap (λ (e : Evaluation). cost_after question makefile e.outcome) c.deref.ensures in
    let reply = c.in_ok-reply.ensures.reply ∙ ap (λ (e : Evaluation). reply_after question makefile e.outcome) c.deref.ensures in
    let up = made_up world question makefile before came asked c.in_ok-reply.cost spent is.placed is.came c.requires.up c.in-Done.is
    (omega arith) cost c.spent_on-spent.ensures in
    let few = may-act before spent c.left_of-then-not-takes_record.result up c.left_of-then-not-takes_record.ensures
    (grind (arith, nat_tests, c.if-left_of-gt0.true)) in
    let evaluated_up = subst (IsUpFrom before) (sym c.spent-evaluated.ensures.is) c.requires.up in
    record {
      turned = record {
        in_time = made_in_time world question makefile before came asked c.in_ok-reply.cost spent is.placed is.came c.requires.up
            c.in-Done.is (omega arith) cost c.spent_on-spent.ensures
            c.spent-evaluated.result c.spent-evaluated.ensures.is
            (may-act before c.spent-evaluated.result c.left_of.result evaluated_up c.left_of.ensures
            (grind (arith, nat_tests, c.if-left_of-eq0.false)));
        answer = made_answers world question makefile before came asked c.in_ok-reply.cost spent is.placed is.came c.requires.up
            c.in-Done.is (omega arith) cost c.spent_on-spent.ensures c.in_ok-reply.reply reply;
        up = up;
        charged = made_charged world question makefile before came asked c.in_ok-reply.cost spent is.placed is.came c.requires.up
            c.in-Done.is (omega arith) cost c.spent_on-spent.ensures c.asking_spends.ensures;
      };
      fewer = tt;
      short = omega (arith, few);
    }

pub returns-clause-turn : goal.returns-clause-turn
returns-clause-turn c = λ world refresh is in_time.
    let question = c.args.question in
    let makefile = c.args.self.makefile in
    let before = c.args.before in
    let came = c.args.self.came in
    let asked = c.in-Done.asked in
    let spent = c.spent_on-spent.result in
    let cost = c.in_ok-reply.ensures.cost ∙ ap (λ (e : Evaluation). cost_after question makefile e.outcome) c.deref.ensures in
    let reply = c.in_ok-reply.ensures.reply ∙ ap (λ (e : Evaluation). reply_after question makefile e.outcome) c.deref.ensures in
    let up = made_up world question makefile before came asked c.in_ok-reply.cost spent is.placed is.came c.requires.up c.in-Done.is
    (omega arith) cost c.spent_on-spent.ensures in
    let evaluated_up = subst (IsUpFrom before) (sym c.spent-evaluated.ensures.is) c.requires.up in
    record {
      turned = record {
        in_time = made_in_time world question makefile before came asked c.in_ok-reply.cost spent is.placed is.came c.requires.up
            c.in-Done.is (omega arith) cost c.spent_on-spent.ensures
            c.spent-evaluated.result c.spent-evaluated.ensures.is
            (may-act before c.spent-evaluated.result c.left_of.result evaluated_up c.left_of.ensures
            (grind (arith, nat_tests, c.if-left_of-eq0.false)));
        same = refl;
        pending = (
          made_answers world question makefile before came asked c.in_ok-reply.cost spent is.placed is.came c.requires.up c.in-Done.is
              (omega arith) cost c.spent_on-spent.ensures c.in_ok-reply.reply reply,
          made_charged world question makefile before came asked c.in_ok-reply.cost spent is.placed is.came c.requires.up c.in-Done.is
              (omega arith) cost c.spent_on-spent.ensures c.asking_spends.ensures,
        );
        up = up;
        within = made_within world question makefile before came asked c.in_ok-reply.cost spent is.placed is.came c.requires.up c.in-Done.is
            (omega arith) cost c.spent_on-spent.ensures;
        acts = elim c.else-not-takes_record.branch [
          | else-not-takes_record-via-then-not-takes_record+else-left_of-gt0 w ↦
              acts question before spent (all-acted before spent w.left_of-then-not-takes_record.result up
              w.left_of-then-not-takes_record.ensures (grind (arith, nat_tests, w.if-left_of-gt0.false)))
          | else-not-takes_record-via-else-not-takes_record w ↦ acts-record question before spent (sym c.takes_record.ensures
              ∙ w.if-not-takes_record.false)
        ];
      };
      fewer = some-left world question makefile (total_of before) is.placed;
      short = made_few world question makefile before came asked c.in_ok-reply.cost spent is.placed is.came c.requires.up c.in-Done.is
          (omega arith) cost c.spent_on-spent.ensures
          c.evaluations_cost_few.ensures c.records_cost_few.ensures c.spent-evaluated.result c.spent-evaluated.ensures.is
          (may-act before c.spent-evaluated.result c.left_of.result evaluated_up c.left_of.ensures
          (grind (arith, nat_tests, c.if-left_of-eq0.false)));
    }
