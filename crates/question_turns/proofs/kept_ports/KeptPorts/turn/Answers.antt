-- What is under way is as far as its stage says.
use Rattle.std.proofs.Common.{◌≡◌, subst, sym}
use Rattle.mk_paths.specs.World.{World}
use Rattle.turn_amounts.specs.Spent.{no_spending, total_of}
use Rattle.turn_amounts.specs.declared.spent.Spent.{Spent}
use Rattle.plain_service.specs.declared.port_routes.PortQuestion.{PortQuestion}
use Rattle.plain_service.specs.declared.questions.Question.TheVariants.{OfPort}
use Rattle.index_keep.specs.Keeper.{refresh_of}
use Rattle.index_keep.specs.Turns.{RefreshView}
use Rattle.question_turns.specs.Ports.{world_of_ports}
use Rattle.question_turns.specs.UnderWay.{IsSpentAtStage}
use Rattle.question_turns.specs.TurnsLeft.{IsQuestionTurn, TurnsOn, TellsNoRecord, TellsNoRecordYet, turns_after}
use Rattle.question_turns.specs.declared.port_ask.PortAsk.{PortAsk}
use Rattle.question_turns.specs.declared.under_way.Stage.{Stage}
use Rattle.question_turns.specs.declared.under_way.Stage.TheVariants.{Begun, Evaluating}
use Rattle.question_turns.specs.declared.under_way.Turned.{Turned}
use Rattle.question_turns.specs.declared.under_way.UnderWay.{UnderWay}
use Rattle.question_turns.proofs.TurnsLemmas.{both_ok}
use Rattle.question_turns.proofs.kept_ports.KeptPorts.turn.Goals as goal

module _ (world : World) (old new : RefreshView) (under_way : UnderWay) (question : PortQuestion) (came : Turned) where
  begun : under_way.stage ≡ Begun question → under_way.spent ≡ no_spending → IsQuestionTurn world new (OfPort question) no_spending
      (turns_after world (OfPort question) 0) came
      → TellsNoRecordYet world question came → TurnsOn world old new under_way came
  begun is nothing turn later =
      subst (λ (stage : Stage). TurnsOn world old new (record { stage = stage; spent = under_way.spent }) came) (sym is)
      (subst (λ (spent : Spent). TurnsOn world old new (record { stage = Begun question; spent = spent }) came) (sym nothing)
      (record { turn = turn; later = later; refresh = tt }))

  evaluating : (ask : PortAsk) → under_way.stage ≡ Evaluating question ask
      → IsQuestionTurn world new (OfPort question) under_way.spent (turns_after world (OfPort question) (total_of under_way.spent)) came
      → TellsNoRecord question came → TurnsOn world old new under_way came
  evaluating ask is turn later =
      subst (λ (stage : Stage). TurnsOn world old new (record { stage = stage; spent = under_way.spent }) came) (sym is)
      (record { turn = turn; later = later; refresh = tt })

pub returns-in-Begun-clause-turn : goal.returns-in-Begun-clause-turn
returns-in-Begun-clause-turn g c =
    let world = world_of_ports g.F.Names.view c.args.self.now in
    let old = refresh_of g.R.PathRows.entries c.args.self.now.keeper.now in
    let new = refresh_of g.R.PathRows.entries c.begin.new.self.keeper.now in
    let nothing = subst (IsSpentAtStage world old c.args.under_way.spent) c.in-Begun.is c.requires in
    both_ok c.begin.result (λ came. begun world old new c.args.under_way c.in-Begun.question came c.in-Begun.is nothing)
    (c.begin.ensures.turn new) c.begin.ensures.later

pub returns-in-Evaluating-clause-turn : goal.returns-in-Evaluating-clause-turn
returns-in-Evaluating-clause-turn g c =
    let world = world_of_ports g.F.Names.view c.args.self.now in
    let old = refresh_of g.R.PathRows.entries c.args.self.now.keeper.now in
    let new = refresh_of g.R.PathRows.entries c.evaluate_on.new.self.keeper.now in
    both_ok c.evaluate_on.result (λ came. evaluating world old new c.args.under_way c.in-Evaluating.question came
    c.in-Evaluating.ask c.in-Evaluating.is)
    (c.evaluate_on.ensures.turn new) c.evaluate_on.ensures.later
