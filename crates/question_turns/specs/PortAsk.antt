-- The evaluation of a port's makefile.
use Rattle.std.specs.Prelude.{◌≡◌, ◌≤◌, ℕ, Option, Some, None, IfSome, Result, IfOk}
use Rattle.mk_eval.specs.Agreement.{cost_of}
use Rattle.mk_paths.specs.FilesView.{FilesView, view_world}
use Rattle.mk_paths.specs.Place.{place}
use Rattle.mk_paths.specs.World.{World, FileMap, files_in}
use Rattle.mk_paths.specs.declared.search_path.Settings.{Settings}
use Rattle.pkg_path.specs.Paths.{PathValue}
use Rattle.eval_cache.specs.Keys.{Key, key_for}
use Rattle.eval_cache.specs.Right.{evaluation_of}
use Rattle.turn_amounts.specs.Spent.{no_spending}
use Rattle.turn_amounts.specs.declared.spent.Spent.{Spent}
use Rattle.eval_ask.specs.Ask.{AsksOn, HasComeTo, HasLooked}
use Rattle.question_turns.specs.declared.port_ask.PortAsk.{PortAsk}

-- the makefile of a path is evaluated in a world: the evaluation is under way, or at its end
pub record IsPortAsk (world : World) (path : PathValue) (ask : PortAsk) : Type 0 where
  pub placed : place world path.directory ≡ Some ask.makefile
  pub came : HasComeTo (files_in world) (key_for world.1 ask.makefile path.flavors) ask.came

-- the same in some world
pub record HasBegunPortAsk (path : PathValue) (ask : PortAsk) : Type 0 where
  pub world : World
  pub is : IsPortAsk world path ask

-- it begins, if the makefile is there
abbrev pub BeginsPortAsk : World → PathValue → Option PortAsk → Type 0
BeginsPortAsk world path None = place world path.directory ≡ None
BeginsPortAsk world path (Some ask) = IsPortAsk world path ask

-- where a function succeeds, it began the evaluation of the makefile of a path, if that is there
abbrev pub BeginsEvaluation : {E : Type 0} → Result (Option PortAsk) E → FilesView → Settings → PathValue → Type 0
BeginsEvaluation result files settings path = IfOk result (BeginsPortAsk (view_world files settings) path)

-- where a function succeeds, the evaluation that it began spent only what a look at what is kept takes
abbrev pub LooksFirst : {E : Type 0} → Result (Option PortAsk) E → Type 0
LooksFirst result = IfOk result (λ ask. IfSome ask (λ begun. HasLooked no_spending begun.came))

-- where a function succeeds, the makefile of the same path is evaluated as before, whichever path that is
abbrev pub KeepsPortAsk : {E : Type 0} → Result PortAsk E → FileMap → PortAsk → Type 0
KeepsPortAsk result files before =
    (settings : Settings) (path : PathValue) → IsPortAsk (files, settings) path before
    → IfOk result (IsPortAsk (files, settings) path)

-- where a function succeeds, it took a turn of an evaluation, which was given so many units
abbrev pub TurnsPortAsk : {E : Type 0} → Result PortAsk E → FileMap → ℕ → PortAsk → Type 0
TurnsPortAsk result files units before = IfOk result (λ ask. AsksOn files units before.came ask.came)

-- no more units were spent than the evaluation costs, whichever it is
abbrev pub SpendsWithinCost : Spent → PortAsk → Type 0
SpendsWithinCost spent ask =
    (files : FileMap) (key : Key) → HasComeTo files key ask.came → spent.units ≤ cost_of (evaluation_of files key).outcome
