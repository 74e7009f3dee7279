-- Nothing was spent before, and the files are the same.
use Rattle.std.proofs.Common.{ℕ, subst, sym, Option, IfOk}
use Rattle.std.specs.Prelude.{IfSome}
use Rattle.mk_paths.specs.World.{World, FileMap}
use Rattle.turn_amounts.specs.Spent.{no_spending, total_of}
use Rattle.turn_amounts.specs.declared.spent.Spent.{Spent}
use Rattle.plain_service.specs.declared.questions.Question.TheVariants.{OfPort}
use Rattle.eval_ask.specs.Ask.{HasLooked}
use Rattle.question_turns.specs.Ports.{world_of_ports}
use Rattle.question_turns.specs.TurnsLeft.{IsQuestionTurn, TellsNoRecord, TellsNoRecordYet, turns_after}
use Rattle.question_turns.specs.declared.port_ask.PortAsk.{PortAsk}
use Rattle.std.proofs.lemmas.Result.{IfOk-weaker}
use Rattle.plain_service.specs.declared.port_routes.PortQuestion.{PortQuestion}
use Rattle.plain_service.specs.declared.port_routes.PortQuestion.TheVariants.{Variable, Record}
use Rattle.question_turns.specs.declared.under_way.Turned.{Turned}
use Rattle.question_turns.specs.declared.under_way.Turned.TheVariants.{More, Done}
use Rattle.question_turns.proofs.kept_ports.KeptPorts.begin.Goals as goal

-- what isn't told at all isn't told at once
no_record : (world : World) (question : PortQuestion) (came : Turned) → TellsNoRecord question came → TellsNoRecordYet world question came
no_record world (Variable asked) came is = tt
no_record world (Record path) (More under_way) is = tt
no_record world (Record path) (Done reply spent) is = absurd is

pub returns-in-Some-clause-later : goal.returns-in-Some-clause-later
returns-in-Some-clause-later g c =
    IfOk-weaker c.evaluate_on.result _ _ (no_record (world_of_ports g.F.Names.view c.args.self.now) c.args.question)
    c.evaluate_on.ensures.later

pub returns-in-Some-clause-turn : goal.returns-in-Some-clause-turn
returns-in-Some-clause-turn g c = λ refresh.
    let question = OfPort c.args.question in
    let turns : World → Spent → ℕ = λ world before. turns_after world question (total_of before) in
    let world = world_of_ports g.F.Names.view c.args.self.now in
    subst (λ (s : Spent). IfOk c.evaluate_on.result (IsQuestionTurn world refresh question s (turns world s))) c.nothing.ensures
    (subst (λ (files : FileMap). let w : World = (files, c.args.self.now.settings.now) in IfOk c.evaluate_on.result
    (IsQuestionTurn w refresh question c.nothing.result (turns w c.nothing.result)))
    c.in_ok-ask.ensures.leaves.0 (c.evaluate_on.ensures.turn refresh))

pub evaluate_on-requires-clause-looked : goal.evaluate_on-requires-clause-looked
evaluate_on-requires-clause-looked g c =
    subst (λ (before : Spent). HasLooked before c.in-Some.ask.came) (sym c.nothing.ensures)
    (subst (λ (ask : Option PortAsk). IfSome ask (λ begun. HasLooked no_spending begun.came)) c.in-Some.is c.in_ok-ask.ensures.looked)
