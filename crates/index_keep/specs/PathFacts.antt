-- What the private functions give that make the row of a path. Only their clauses use it.
use Rattle.std.specs.Prelude.{◌≡◌, ◌≤◌, ◌+◌, ◌++◌, ℕ, List, map, Option, IfOk, option_map, string_bytes, String, Result, Vec}
use Rattle.std.specs.Borrow.{Bor}
use Rattle.std.specs.Global.{Global}
use Rattle.mk_base.specs.declared.budget.TheConstants.{UNITS}
use Rattle.mk_paths.specs.FilesView.{FilesView, Question}
use Rattle.mk_paths.specs.Place.{place, places_asked}
use Rattle.mk_paths.specs.World.{World}
use Rattle.mk_paths.specs.declared.files.Names as names
use Rattle.mk_paths.specs.declared.search_path.Settings.{Settings}
use Rattle.read_trace.specs.Recorder.{view_of}
use Rattle.read_trace.specs.declared.recorder.Recorder.{Recorder}
use Rattle.index_row.specs.Seen.{kept_row_seen}
use Rattle.port_index.specs.PathOutcomes.{cost_at}
use Rattle.turn_amounts.specs.Spent.{no_spending, total_of}
use Rattle.turn_amounts.specs.declared.spent.Spent.{Spent}
use Rattle.eval_ask.specs.Ask.{spent_less_saved}
use Rattle.eval_ask.specs.declared.ask.Asked.{Asked}
use Rattle.index_keep.specs.declared.path_ask.FoundPath.{FoundPath}
use Rattle.index_keep.specs.declared.path_ask.MadeRow.{MadeRow}
use Rattle.index_keep.specs.declared.path_ask.NamedDirectory.{NamedDirectory}
use Rattle.index_keep.specs.declared.path_ask.PathAsk.{PathAsk}
use Rattle.index_keep.specs.declared.path_ask.PathTurned.{PathTurned}
use Rattle.index_keep.specs.Paths.{IsFoundAt, IsFoundOf, IsPathAsk, TurnsPath, flavors_named}
use Rattle.index_keep.specs.Right.{asked_world, names_in}

-- ---- turns on a path

-- where a function succeeds, it is the first turn on a path whose makefile was found
abbrev pub BeginsPath : {F E : Type 0} {asked : names.Ghosts F} → (F → FilesView)
    → Recorder F asked → Settings → FoundPath → ℕ → Result PathTurned E → Type 0
BeginsPath view files settings found units result =
    IsFoundAt (asked_world view files settings) found
    → IfOk result (TurnsPath (asked_world view files settings) (string_bytes found.path) units no_spending)

-- where a function succeeds, it is a turn on a path that is evaluated, and on which so much was spent before
abbrev pub TurnsPathOn : {F E : Type 0} {asked : names.Ghosts F} → (F → FilesView)
    → Recorder F asked → PathAsk → ℕ → Spent → Result PathTurned E → Type 0
TurnsPathOn view files ask units before result =
    (settings : Settings) → IsPathAsk (asked_world view files settings) (string_bytes ask.found.path) ask
    → IfOk result (TurnsPath (asked_world view files settings) (string_bytes ask.found.path) units before)

-- the units that were spent on a path aren't more than it costs
abbrev pub IsWithinCost : PathAsk → Spent → Type 0
IsWithinCost ask spent = (world : World) (path : List ℕ) → IsPathAsk world path ask → spent.units ≤ cost_at world path

-- ---- where a path leads

-- these flavors are lent, if any are given
abbrev pub LendsFlavors : NamedDirectory → Option (Bor (List (String Global))) → Type 0
LendsFlavors named flavors = option_map (λ (lent : Bor (List (String Global))). map string_bytes lent.now) flavors ≡ flavors_named named

-- where a function succeeds, it finds the makefile of a path, or none if there is none
abbrev pub FindsMakefile : {F E : Type 0} {asked : names.Ghosts F} → (F → FilesView)
    → Recorder F asked → Settings → List ℕ → Result (Option FoundPath) E → Type 0
FindsMakefile view files settings path result = IfOk result (IsFoundOf (asked_world view files settings) path)

-- where a function succeeds, it finds the place of a directory's makefile
abbrev pub FindsPlace : {F E : Type 0} {asked : names.Ghosts F} → (F → FilesView)
    → Recorder F asked → Settings → List ℕ → Result (Option (List ℕ) × List Question) E → Type 0
FindsPlace view files settings directory result =
    IfOk result (λ found. found.0 ≡ place (asked_world view files settings) directory)

-- where a function succeeds, it gives what was asked to find that place
abbrev pub GivesAsked : {F E : Type 0} {asked : names.Ghosts F} → (F → FilesView)
    → Recorder F asked → Settings → List ℕ → Result (Option (List ℕ) × List Question) E → Type 0
GivesAsked view files settings directory result =
    IfOk result (λ found. found.1 ≡ places_asked (view_of view files).files settings.path directory)

-- ---- the row

-- what was spent on a row follows from its evaluation and from what the row costs
abbrev pub SpendsAsAsked : Asked → MadeRow → Type 0
SpendsAsAsked asked made = made.spent ≡ spent_less_saved asked (kept_row_seen made.row).cost

-- at most UNITS more were spent on it than on the evaluation
abbrev pub SpendsFewMore : Asked → MadeRow → Type 0
SpendsFewMore asked made = total_of made.spent ≤ (asked.units + asked.checks) + UNITS

-- the names follow that these questions are about
abbrev pub AddsNamesAsked : List Question → Vec (String Global) Global → Vec (String Global) Global → Type 0
AddsNamesAsked questions old new = map string_bytes new.items ≡ map string_bytes old.items ++ names_in questions
