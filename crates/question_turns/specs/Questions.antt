-- A question before, in and after one of its turns.
use Rattle.std.specs.Prelude.{◌≡◌, Result, IfOk}
use Rattle.mk_paths.specs.FilesView.{FilesView, view_world}
use Rattle.mk_paths.specs.World.{World}
use Rattle.mk_paths.specs.declared.search_path.Settings.{Settings}
use Rattle.index_store.specs.Entries.{Entries}
use Rattle.turn_amounts.specs.Spent.{no_spending}
use Rattle.plain_service.specs.declared.questions.Question.{Question}
use Rattle.index_keep.specs.Keeper.{refresh_of, keeper_rows}
use Rattle.index_keep.specs.Turns.{RefreshView, StayFresh}
use Rattle.index_keep.specs.declared.keeper.Keeper.{Keeper}
use Rattle.question_turns.specs.UnderWay.{IsUnderWayOver}
use Rattle.question_turns.specs.TurnsLeft.{IsBeforeFirstTurn, TurnsOn}
use Rattle.question_turns.specs.declared.under_way.Turned.{Turned}
use Rattle.question_turns.specs.declared.under_way.UnderWay.{UnderWay}

-- this is a question before its first turn, over any world
abbrev pub BeginsQuestion : Question → UnderWay → Type 0
BeginsQuestion question under_way = (world : World) (refresh : RefreshView) → IsBeforeFirstTurn world refresh question under_way

-- the same if no path is under evaluation
abbrev pub BeginsAtRest : Question → UnderWay → Type 0
BeginsAtRest question under_way =
    (world : World) (refresh : RefreshView) → refresh.begun ≡ no_spending → IsBeforeFirstTurn world refresh question under_way

module _ {F R : Type 0} (entries : R → Entries) (view : F → FilesView) where
  -- this is under way over the world of these files and settings, by what a keeper has
  abbrev pub IsPendingOver : F → Settings → Keeper R → UnderWay → Type 0
  IsPendingOver files settings keeper under_way =
      IsUnderWayOver (view_world (view files) settings) (refresh_of entries keeper) under_way

  -- rows of a keeper that were fresh for the world of these files and settings are so still
  abbrev pub KeepsFresh : F → Settings → (old new : Keeper R) → Type 0
  KeepsFresh files settings old new = StayFresh (view_world (view files) settings) (keeper_rows entries old) (keeper_rows entries new)

-- where a function succeeds, it took a turn for what is under way over the world of these files and settings
abbrev pub Works : {F R E : Type 0} → (R → Entries) → Result Turned E → (F → FilesView) → F → Settings
    → (old new : Keeper R) → UnderWay → Type 0
Works entries result view files settings old new under_way =
    IfOk result (TurnsOn (view_world (view files) settings) (refresh_of entries old) (refresh_of entries new) under_way)
