-- What is under way for a question, and what a turn makes of it.
use Rattle.std.specs.Prelude.{◌≡◌, ◌≤◌, ◌+◌, ◌*◌, Bool, true, false, [], Option, Some, None}
use Rattle.turn_amounts.specs.declared.TheConstants.{MOST_CHECKS, TURN_UNITS}
use Rattle.mk_paths.specs.World.{World}
use Rattle.ports_http.specs.Messages.{ReplyMessage}
use Rattle.port_index.specs.Efforts.{cost_over, evaluations_over}
use Rattle.port_index.specs.Index.{needed_paths}
use Rattle.turn_amounts.specs.Spent.{no_spending, spent_together, IsUpFrom, total_of}
use Rattle.turn_amounts.specs.declared.spent.Spent.{Spent}
use Rattle.plain_service.specs.declared.questions.Question.{Question}
use Rattle.plain_service.specs.declared.questions.Question.TheVariants.{Settled, OfFile, OfPort, OfIndex}
use Rattle.plain_service.specs.declared.port_routes.PortQuestion.{PortQuestion}
use Rattle.plain_service.specs.declared.port_routes.PortQuestion.TheVariants.{Variable, Record}
use Rattle.plain_service.specs.Answers.{answer_to}
use Rattle.plain_service.specs.Requests.{Answer, reply_alone}
use Rattle.plain_service.specs.AnswerCosts.{pair_of, path_asked, port_cost_at}
use Rattle.plain_service.specs.Spent.{SpendsFor, StaysWithin}
use Rattle.eval_ask.specs.Ask.{EvaluatesInTime, MakesInTime, spent_in}
use Rattle.index_keep.specs.Turns.{RefreshView, IsWithinLeft, PaysAll, IsRefreshTurn, cost_left, evaluations_left, paths_left, spent_by}
use Rattle.index_keep.specs.declared.keeper.Refreshed.{Refreshed}
use Rattle.question_turns.specs.declared.under_way.Turned.{Turned}
use Rattle.question_turns.specs.declared.under_way.Turned.TheVariants.{More, Done}
use Rattle.question_turns.specs.declared.under_way.Stage.{Stage}
use Rattle.question_turns.specs.declared.under_way.Stage.TheVariants.{Begun, Evaluating, Ready, Refreshing}
use Rattle.question_turns.specs.declared.under_way.UnderWay.{UnderWay}
use Rattle.question_turns.specs.PortAsk.{IsPortAsk}

-- So much was spent to refresh the index. With what is left to be done it is no more than the whole index takes, if
-- what was spent on the path under evaluation isn't counted twice.
pub record IsSpentOnIndex (world : World) (refresh : RefreshView) (spent : Spent) : Type 0 where
  pub units : spent.units + cost_left world refresh.rows ≤ cost_over world (needed_paths world) + refresh.begun.units
  pub checks : spent.checks + MOST_CHECKS * evaluations_left world refresh.rows
      ≤ MOST_CHECKS * evaluations_over world (needed_paths world) + refresh.begun.checks
  pub begun : IsWithinLeft world refresh

-- the question that is as far as this
abbrev pub question_at : Stage → Question
question_at (Begun asked) = OfPort asked
question_at (Evaluating asked ask) = OfPort asked
question_at (Ready asked reply) = OfPort asked
question_at (Refreshing asked) = OfIndex asked

-- the question for which this is under way
abbrev pub question_in : UnderWay → Question
question_in under_way = question_at under_way.stage

-- a reply, and no change, is the answer to a question over a world
abbrev pub IsReplyToQuestion : World → Question → ReplyMessage → Type 0
IsReplyToQuestion world question reply = ◌≡◌ {A = Answer} (reply_alone reply) (answer_to world question)

-- what was spent on a question that is as far as this
abbrev pub IsSpentAtStage : World → RefreshView → Spent → Stage → Type 0
IsSpentAtStage world refresh spent (Begun asked) = spent ≡ no_spending
IsSpentAtStage world refresh spent (Evaluating asked ask) = IsPortAsk world (path_asked asked) ask × (spent ≡ spent_in ask.came)
IsSpentAtStage world refresh spent (Ready asked reply) =
    IsReplyToQuestion world (OfPort asked) reply × SpendsFor world (OfPort asked) spent
IsSpentAtStage world refresh spent (Refreshing asked) = IsSpentOnIndex world refresh spent

-- this is under way over a world, by how far the refresh of the index is
abbrev pub IsUnderWayOver : World → RefreshView → UnderWay → Type 0
IsUnderWayOver world refresh under_way = IsSpentAtStage world refresh under_way.spent under_way.stage

-- a question takes a record from the evaluation of a port's makefile
abbrev pub is_of_record : PortQuestion → Bool
is_of_record (Variable asked) = false
is_of_record (Record path) = true

-- a turn spent its units, checked answers among them, if the question is about a value
abbrev pub ActsForValue : Question → Spent → Spent → Type 0
ActsForValue (OfPort (Variable asked)) before after = total_of before + TURN_UNITS ≤ total_of after
ActsForValue (OfPort (Record path)) before after = Unit {0}
ActsForValue (Settled prepared) before after = Unit {0}
ActsForValue (OfFile asked) before after = Unit {0}
ActsForValue (OfIndex asked) before after = Unit {0}

-- the reply to a question about a port is made in time in a turn, before and after which so much was spent
abbrev pub RepliesInTime : World → PortQuestion → Spent → Spent → Type 0
RepliesInTime world asked before after =
    MakesInTime world (port_cost_at world asked) (pair_of world (path_asked asked)) TURN_UNITS before after

-- A turn of a question about a port, before which so much was spent, and that left it as far as this: before the last
-- thing that it did, it had spent fewer than its units.
abbrev pub LeavesInTime : World → Spent → Spent → Stage → Type 0
LeavesInTime world before after (Begun asked) = ⊥
LeavesInTime world before after (Evaluating asked ask) =
    EvaluatesInTime world (pair_of world (path_asked asked)) TURN_UNITS before after
LeavesInTime world before after (Ready asked reply) = RepliesInTime world asked before after
LeavesInTime world before after (Refreshing asked) = Unit {0}

-- A turn left a question open, before which so much was spent. A value is told in the turn that finds it, unless the turn
-- had spent its units.
pub record LeavesOpen (world : World) (refresh : RefreshView) (question : Question) (before : Spent)
    (under_way : UnderWay) : Type 0 where
  pub same : question_in under_way ≡ question
  pub pending : IsUnderWayOver world refresh under_way
  pub up : IsUpFrom before under_way.spent
  pub within : StaysWithin world question under_way.spent
  pub acts : ActsForValue question before under_way.spent
  pub in_time : LeavesInTime world before under_way.spent under_way.stage

-- a reply about a port is made in time in the turn that tells it
abbrev pub AnswersInTime : World → Question → Spent → Spent → Type 0
AnswersInTime world (Settled prepared) before after = Unit {0}
AnswersInTime world (OfFile asked) before after = Unit {0}
AnswersInTime world (OfPort asked) before after = RepliesInTime world asked before after
AnswersInTime world (OfIndex asked) before after = Unit {0}

-- a turn answered a question, before which so much was spent
pub record AnswersQuestion (world : World) (question : Question) (before : Spent) (reply : ReplyMessage)
    (spent : Spent) : Type 0 where
  pub answer : IsReplyToQuestion world question reply
  pub up : IsUpFrom before spent
  pub charged : SpendsFor world question spent
  pub in_time : AnswersInTime world question before spent

-- what a turn makes of a question
abbrev pub TurnsQuestion : World → RefreshView → Question → Spent → Turned → Type 0
TurnsQuestion world refresh question before (More under_way) = LeavesOpen world refresh question before under_way
TurnsQuestion world refresh question before (Done reply spent) = AnswersQuestion world question before reply spent

-- A turn went on with the refresh of the index, before and after which so much was spent. Its last part was a turn of the
-- refresh, which was given the units of a turn. Just what this spent is told, and all that is taken off the units that are
-- left.
pub record RefreshesInTime (world : World) (old new : RefreshView) (before after : Spent) : Type 0 where
  pub from : RefreshView
  pub turned : Refreshed
  pub last : IsRefreshTurn world TURN_UNITS from new turned
  pub told : after ≡ spent_together before (spent_by turned)
  pub pays : PaysAll world old new (spent_by turned)

-- A part of a turn went on with the refresh of the index: it is done, or so much was spent.
abbrev pub RefreshesOn : World → RefreshView → Spent → Option Spent → Type 0
RefreshesOn world refresh before None =
    IsSpentOnIndex world refresh before × (refresh.begun ≡ no_spending) × (paths_left world refresh.rows ≡ [])
RefreshesOn world refresh before (Some spent) = IsSpentOnIndex world refresh (spent_together before spent)
