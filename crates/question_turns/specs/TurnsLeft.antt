-- How many turns may follow for a question, and how much one of them spends.
use Rattle.std.specs.Prelude.{◌≡◌, ◌≤◌, ◌<◌, ◌+◌, ◌*◌, ◌-◌, ◌/◌, ℕ, length, Option, None, OnSome}
use Rattle.turn_amounts.specs.declared.TheConstants.{MOST_CHECKS, TURN_UNITS}
use Rattle.mk_paths.specs.Place.{place}
use Rattle.mk_paths.specs.World.{World}
use Rattle.turn_amounts.specs.Spent.{no_spending, total_of}
use Rattle.turn_amounts.specs.declared.spent.Spent.{Spent}
use Rattle.plain_service.specs.declared.port_routes.PortQuestion.{PortQuestion}
use Rattle.plain_service.specs.declared.port_routes.PortQuestion.TheVariants.{Variable, Record}
use Rattle.plain_service.specs.declared.questions.Question.{Question}
use Rattle.plain_service.specs.declared.questions.Question.TheVariants.{OfPort}
use Rattle.plain_service.specs.AnswerCosts.{cost_for, rests_for}
use Rattle.eval_ask.specs.Ask.{IsShort}
use Rattle.index_keep.specs.Turns.{RefreshView, cost_left, evaluations_left}
use Rattle.question_turns.specs.declared.under_way.Turned.{Turned}
use Rattle.question_turns.specs.declared.under_way.Turned.TheVariants.{More, Done}
use Rattle.question_turns.specs.declared.under_way.Stage.{Stage}
use Rattle.question_turns.specs.declared.under_way.Stage.TheVariants.{Begun, Evaluating, Ready, Refreshing}
use Rattle.question_turns.specs.declared.under_way.UnderWay.{UnderWay}
use Rattle.question_turns.specs.UnderWay.{IsUnderWayOver, RefreshesInTime, TurnsQuestion, question_in}

-- How many turns may end without an answer, if so many makefiles are left to be evaluated at this cost, and so much of
-- that is spent. It is one for each of them, and one for as many units and answers that may be checked as a turn has units.
abbrev pub open_turns : ℕ → ℕ → ℕ → ℕ
open_turns evaluations cost spent = evaluations + (cost + MOST_CHECKS * evaluations - spent) / TURN_UNITS

-- the same for a question, of which so much is spent
abbrev pub turns_after : World → Question → ℕ → ℕ
turns_after world question spent = open_turns (length (rests_for world question)) (cost_for world question) spent

-- the same for what is left of a refresh
abbrev pub turns_of_refresh : World → RefreshView → ℕ
turns_of_refresh world refresh =
    open_turns (evaluations_left world refresh.rows) (cost_left world refresh.rows) (total_of refresh.begun)

-- the same for a question that is as far as this, on which so much is spent
abbrev pub turns_at : World → RefreshView → Spent → Stage → ℕ
turns_at world refresh spent (Begun asked) = turns_after world (OfPort asked) 0
turns_at world refresh spent (Evaluating asked ask) = turns_after world (OfPort asked) (total_of spent)
turns_at world refresh spent (Ready asked reply) = 0
turns_at world refresh spent (Refreshing asked) = turns_of_refresh world refresh

-- the same for what is under way
abbrev pub turns_left : World → RefreshView → UnderWay → ℕ
turns_left world refresh under_way = turns_at world refresh under_way.spent under_way.stage

-- a question before its first turn: nothing is spent on it, and no more turns may come than its cost allows
pub record IsBeforeFirstTurn (world : World) (refresh : RefreshView) (question : Question) (under_way : UnderWay) : Type 0 where
  pub asked : question_in under_way ≡ question
  pub nothing : under_way.spent ≡ no_spending
  pub pending : IsUnderWayOver world refresh under_way
  pub turns : turns_left world refresh under_way ≤ turns_after world question 0

-- a turn that doesn't answer a question leaves fewer such turns
abbrev pub LeavesFewer : World → RefreshView → ℕ → Turned → Type 0
LeavesFewer world refresh turns (More under_way) = turns_left world refresh under_way < turns
LeavesFewer world refresh turns (Done reply spent) = Unit {0}

-- what was spent on a question in all turns up to this
abbrev pub spent_after : Turned → Spent
spent_after (More under_way) = under_way.spent
spent_after (Done reply spent) = spent

-- A turn of a question that left the refresh of the index as far as this. So much was spent before it, and so many turns
-- could come without an answer.
pub record IsQuestionTurn (world : World) (refresh : RefreshView) (question : Question) (before : Spent) (turns : ℕ)
    (came : Turned) : Type 0 where
  pub turned : TurnsQuestion world refresh question before came
  pub fewer : LeavesFewer world refresh turns came
  pub short : IsShort TURN_UNITS before (spent_after came)

-- a turn that ends an evaluation doesn't tell the record that is taken from it
abbrev pub TellsNoRecord : PortQuestion → Turned → Type 0
TellsNoRecord (Record path) (Done reply spent) = ⊥
TellsNoRecord (Record path) (More under_way) = Unit {0}
TellsNoRecord (Variable asked) came = Unit {0}

-- the same of a question that had no turn yet, unless its port has no makefile
abbrev pub TellsNoRecordYet : World → PortQuestion → Turned → Type 0
TellsNoRecordYet world (Record path) (Done reply spent) = place world path.directory ≡ None
TellsNoRecordYet world (Record path) (More under_way) = Unit {0}
TellsNoRecordYet world (Variable asked) came = Unit {0}

-- the same of a question that is as far as this
abbrev pub TellsRecordLater : World → Stage → Turned → Type 0
TellsRecordLater world (Begun asked) came = TellsNoRecordYet world asked came
TellsRecordLater world (Evaluating asked ask) came = TellsNoRecord asked came
TellsRecordLater world (Ready asked reply) came = Unit {0}
TellsRecordLater world (Refreshing asked) came = Unit {0}

-- what a turn spent on the refresh of the index, if the question is as far as that
abbrev pub TellsRefresh : World → RefreshView → RefreshView → Spent → Spent → Stage → Type 0
TellsRefresh world old new before after (Begun asked) = Unit {0}
TellsRefresh world old new before after (Evaluating asked ask) = Unit {0}
TellsRefresh world old new before after (Ready asked reply) = Unit {0}
TellsRefresh world old new before after (Refreshing asked) = RefreshesInTime world old new before after

-- a turn for what was under way, by how far the refresh of the index was and is
pub record TurnsOn (world : World) (old new : RefreshView) (under_way : UnderWay) (came : Turned) : Type 0 where
  pub turn : IsQuestionTurn world new (question_in under_way) under_way.spent (turns_left world old under_way) came
  pub later : TellsRecordLater world under_way.stage came
  pub refresh : TellsRefresh world old new under_way.spent (spent_after came) under_way.stage

-- A part of a turn in which anything was spent on the refresh leaves fewer such turns.
abbrev pub RefreshesFewer : World → RefreshView → RefreshView → Option Spent → Type 0
RefreshesFewer world old new spent = OnSome spent (turns_of_refresh world new < turns_of_refresh world old)
