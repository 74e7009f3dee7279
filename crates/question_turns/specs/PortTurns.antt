-- What turns of ports do whose index is kept. Only functions that are private to the crate are told of by these names.
use Rattle.std.specs.Prelude.{◌≡◌, ℕ, Option, Result, IfOk, unwrap_or}
use Rattle.turn_amounts.specs.declared.TheConstants.{TURN_UNITS}
use Rattle.mk_paths.specs.FilesView.{FilesView}
use Rattle.mk_paths.specs.World.{World}
use Rattle.mk_paths.specs.declared.files.Names as names
use Rattle.index_store.specs.Entries.{Entries}
use Rattle.index_store.specs.declared.path_rows.PathRows as rows
use Rattle.turn_amounts.specs.Spent.{no_spending, spent_together, total_of}
use Rattle.turn_amounts.specs.declared.spent.Spent.{Spent}
use Rattle.plain_service.specs.AnswerCosts.{pair_of, path_asked}
use Rattle.plain_service.specs.declared.index_questions.IndexQuestion.{IndexQuestion}
use Rattle.plain_service.specs.declared.port_routes.PortQuestion.{PortQuestion}
use Rattle.plain_service.specs.declared.questions.Question.TheVariants.{OfPort, OfIndex}
use Rattle.eval_ask.specs.Ask.{EvaluatesInTime, spent_in}
use Rattle.index_keep.specs.Keeper.{TurnsKeeper, refresh_of}
use Rattle.index_keep.specs.Turns.{RefreshView}
use Rattle.index_keep.specs.declared.keeper.Refreshed.{Refreshed}
use Rattle.question_turns.specs.PortAsk.{IsPortAsk}
use Rattle.question_turns.specs.Ports.{world_of_ports}
use Rattle.question_turns.specs.UnderWay.{IsUnderWayOver, IsSpentOnIndex, RefreshesInTime, RefreshesOn}
use Rattle.question_turns.specs.TurnsLeft.{IsQuestionTurn, RefreshesFewer, TurnsOn, spent_after, turns_after, turns_of_refresh}
use Rattle.question_turns.specs.declared.port_ask.PortAsk.{PortAsk}
use Rattle.question_turns.specs.declared.kept_ports.KeptPorts.{KeptPorts}
use Rattle.question_turns.specs.declared.under_way.Turned.{Turned}
use Rattle.question_turns.specs.declared.under_way.UnderWay.{UnderWay}

-- where a function succeeds, it ended a turn that evaluated the makefile of a port, before which so much was spent
abbrev pub EndsTurn : {E : Type 0} → Result Turned E → PortQuestion → PortAsk → Spent → Type 0
EndsTurn result question ask before =
    (world : World) (refresh : RefreshView) → IsPortAsk world (path_asked question) ask
    → EvaluatesInTime world (pair_of world (path_asked question)) TURN_UNITS before (spent_in ask.came)
    → IfOk result (IsQuestionTurn world refresh (OfPort question) before (turns_after world (OfPort question) (total_of before)))

module _ {F R E : Type 0} {files : names.Ghosts F} {entries : rows.Ghosts R} (view : F → FilesView) where
  -- where a function succeeds, it took a turn for a question about a port, before which so much was spent: this in all
  abbrev pub TurnsPort : Result Turned E → KeptPorts F R files entries → PortQuestion → Spent → ℕ → Type 0
  TurnsPort result ports question before total =
      (refresh : RefreshView) → IfOk result (IsQuestionTurn (world_of_ports view ports) refresh (OfPort question) before
      (turns_after (world_of_ports view ports) (OfPort question) total))

module _ {F R : Type 0} {files : names.Ghosts F} {entries : rows.Ghosts R} (stored : R → Entries) where
  -- the refresh of the index is as far as before
  abbrev pub KeepsRefresh : (old new : KeptPorts F R files entries) → Type 0
  KeepsRefresh old new = refresh_of stored new.keeper.now ≡ refresh_of stored old.keeper.now

module _ {F R : Type 0} {files : names.Ghosts F} {entries : rows.Ghosts R} (view : F → FilesView) (stored : R → Entries) where
  -- this is under way over these ports
  abbrev pub IsPendingIn : KeptPorts F R files entries → UnderWay → Type 0
  IsPendingIn ports under_way = IsUnderWayOver (world_of_ports view ports) (refresh_of stored ports.keeper.now) under_way

  -- so much was spent to refresh the index of these ports
  abbrev pub IsSpentIn : KeptPorts F R files entries → Spent → Type 0
  IsSpentIn ports spent = IsSpentOnIndex (world_of_ports view ports) (refresh_of stored ports.keeper.now) spent

module _ {F R E : Type 0} {files : names.Ghosts F} {entries : rows.Ghosts R} (view : F → FilesView) (stored : R → Entries) where
  -- where a function succeeds, it took a turn for what is under way
  abbrev pub TurnsPorts : Result Turned E → (old new : KeptPorts F R files entries) → UnderWay → Type 0
  TurnsPorts result old new under_way =
      IfOk result (TurnsOn (world_of_ports view old) (refresh_of stored old.keeper.now) (refresh_of stored new.keeper.now) under_way)

  -- where a function succeeds, it took a turn for a question about the index, before which so much was spent
  abbrev pub TurnsIndex : Result Turned E → (old new : KeptPorts F R files entries) → IndexQuestion → Spent → Type 0
  TurnsIndex result old new question before =
      IfOk result (IsQuestionTurn (world_of_ports view old) (refresh_of stored new.keeper.now) (OfIndex question) before
      (turns_of_refresh (world_of_ports view old) (refresh_of stored old.keeper.now)))

  -- where a function succeeds, it tells what its turn spent on the refresh, before which so much was spent
  abbrev pub TellsTurn : Result Turned E → (old new : KeptPorts F R files entries) → Spent → Type 0
  TellsTurn result old new before =
      IfOk result (λ came. RefreshesInTime (world_of_ports view old) (refresh_of stored old.keeper.now)
      (refresh_of stored new.keeper.now) before (spent_after came))

  -- where a function succeeds, it went on with the refresh, or that is done, however much was spent before
  abbrev pub RefreshesPorts : Result (Option Spent) E → (old new : KeptPorts F R files entries) → Type 0
  RefreshesPorts result old new =
      (before : Spent) → IsSpentOnIndex (world_of_ports view old) (refresh_of stored old.keeper.now) before
      → IfOk result (RefreshesOn (world_of_ports view old) (refresh_of stored new.keeper.now) before)

  -- where a function succeeds and spent anything on the refresh, it leaves fewer turns that spend on it
  abbrev pub LeavesFewerTurns : Result (Option Spent) E → (old new : KeptPorts F R files entries) → Type 0
  LeavesFewerTurns result old new =
      IfOk result (RefreshesFewer (world_of_ports view old) (refresh_of stored old.keeper.now) (refresh_of stored new.keeper.now))

  -- where a function succeeds, it tells what it spent on the refresh, however much was spent before
  abbrev pub TellsPart : Result (Option Spent) E → (old new : KeptPorts F R files entries) → Type 0
  TellsPart result old new =
      (before : Spent) → IfOk result (λ spent. RefreshesInTime (world_of_ports view old) (refresh_of stored old.keeper.now)
      (refresh_of stored new.keeper.now) before (spent_together before (unwrap_or spent no_spending)))

  -- where a function succeeds, it took a turn of the refresh
  abbrev pub TurnsRefresh : Result Refreshed E → (old new : KeptPorts F R files entries) → Type 0
  TurnsRefresh result old new =
      IfOk result (TurnsKeeper stored (world_of_ports view old) TURN_UNITS (refresh_of stored old.keeper.now) new.keeper.now)
