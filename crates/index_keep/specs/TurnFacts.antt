-- What the private functions do of which a keeper's turns are made. Only their clauses use it.
use Rattle.std.specs.Prelude.{◌≡◌, ◌||◌, ℕ, if◌then◌else◌, Bool, false, List, Option, Some, None, IfSome, string_bytes, String}
use Rattle.std.specs.Prelude.{Result, IfOk, OnOk}
use Rattle.std.specs.BTreeSet.{BTreeSet, contains_text}
use Rattle.std.specs.Global.{Global}
use Rattle.std.specs.Str.{bytes_eq}
use Rattle.mk_paths.specs.FilesView.{FilesView}
use Rattle.mk_paths.specs.World.{World}
use Rattle.mk_paths.specs.declared.files.Names as names
use Rattle.mk_paths.specs.declared.search_path.Settings.{Settings}
use Rattle.read_trace.specs.declared.recorder.Recorder.{Recorder}
use Rattle.index_store.specs.Entries.{Entries, SameRows}
use Rattle.index_row.specs.Seen.{kept_row_seen}
use Rattle.index_row.specs.declared.rows.KeptRow.{KeptRow}
use Rattle.turn_amounts.specs.Spent.{no_spending}
use Rattle.port_index.specs.declared.known_index.IndexPaths.{IndexPaths}
use Rattle.turn_amounts.specs.declared.spent.Spent.{Spent}
use Rattle.eval_ask.specs.Ask.{spent_in}
use Rattle.index_keep.specs.declared.path_ask.PathTurned.{PathTurned}
use Rattle.index_keep.specs.declared.keeper.Keeper.{Keeper}
use Rattle.index_keep.specs.declared.keeper.Progress.{Progress}
use Rattle.index_keep.specs.declared.keeper.Progress.TheVariants.{Changed, Current}
use Rattle.index_keep.specs.declared.keeper.Refreshed.{Refreshed}
use Rattle.index_keep.specs.declared.last_index.HeldIndex.{HeldIndex}
use Rattle.index_keep.specs.declared.keeper_turns.Given.{Given}
use Rattle.index_keep.specs.declared.keeper_turns.WritingAsk.{WritingAsk}
use Rattle.index_keep.specs.declared.walk.LastStage.{LastStage}
use Rattle.index_keep.specs.declared.walk.Walk.{Walk}
use Rattle.index_keep.specs.Shown.{ShowsSame, shown_after, shown_in}
use Rattle.index_keep.specs.Last.{IsHeld}
use Rattle.index_keep.specs.Right.{AreKept, asked_world}
use Rattle.index_keep.specs.Paths.{TurnsPath}
use Rattle.index_keep.specs.Walk.{IsOnTheWay, IsWalk}
use Rattle.index_keep.specs.Turns.{EndsRefresh, refresh_at}
use Rattle.index_keep.specs.Keeper.{DropsTo, IsAskOnTheWay, IsAtEnd, IsKept, IsReadyFor, TurnsKeeper, changed_in, refresh_of, stays_there}

-- ---- what is noted of changes

-- this name has changed too since the refresh began, and no other
abbrev pub AddsChanged : String Global → Progress → Progress → Type 0
AddsChanged name old new =
    (other : List ℕ) → changed_in new other ≡ (bytes_eq (string_bytes name) other || changed_in old other)

-- a change of the file of this name ends a refresh, and an index that was in memory still is
abbrev pub DropsForChange : String Global → Bool → Progress → Progress → Type 0
DropsForChange name is_there old new = DropsTo (stays_there (string_bytes name) is_there) old new

-- ---- how a refresh begins after files of these names have changed

-- the rows of a store are right about the world that a recorder asks
abbrev pub AreKeptAfter : {F R : Type 0} {asked : names.Ghosts F} → (F → FilesView) → (R → Entries)
    → Recorder F asked → Settings → BTreeSet (String Global) → R → Type 0
AreKeptAfter view entries files settings changed rows = AreKept (asked_world view files settings) (shown_after entries changed rows)

-- if an index of before is in memory, it is that of the rows of a store
abbrev pub HoldsLast : {F R : Type 0} {asked : names.Ghosts F} → (F → FilesView) → (R → Entries)
    → Recorder F asked → Settings → BTreeSet (String Global) → R → Option HeldIndex → Type 0
HoldsLast view entries files settings changed rows last =
    IfSome last (IsHeld (contains_text changed) (asked_world view files settings) (shown_after entries changed rows))

-- where a function succeeds, it gives a walk over the rows of a store
abbrev pub BeginsWalk : {F R E : Type 0} {asked : names.Ghosts F} → (F → FilesView) → (R → Entries)
    → Recorder F asked → Settings → R → Result Walk E → Type 0
BeginsWalk view entries files settings rows result = IfOk result (IsWalk (asked_world view files settings) (shown_in entries rows))

-- the same rows are shown once no name has changed since, and the rest of the keeper is as it was
abbrev pub MarksForWalk : {R : Type 0} → (R → Entries) → BTreeSet (String Global) → Keeper R → Keeper R → Type 0
MarksForWalk entries changed old new =
    ShowsSame (shown_after entries changed old.rows) (shown_in entries new.rows) × (new.progress ≡ old.progress)

-- the rows are as they were, and the names that have changed are put back
abbrev pub PutsNamesBack : {R : Type 0} → (R → Entries) → BTreeSet (String Global) → Keeper R → Keeper R → Type 0
PutsNamesBack entries changed old new =
    SameRows (entries old.rows) (entries new.rows) × (new.progress ≡ Changed changed None)

-- ---- how a turn goes on

-- the rows and the progress of a keeper are as they were
abbrev pub StaysAsItWas : {R : Type 0} → (R → Entries) → Keeper R → Keeper R → Type 0
StaysAsItWas entries old new = SameRows (entries old.rows) (entries new.rows) × (new.progress ≡ old.progress)

-- a walk that was taken out of a keeper is on its way over the rows of it
abbrev pub IsTakenWalk : {F R : Type 0} {asked : names.Ghosts F} → (F → FilesView) → (R → Entries)
    → Recorder F asked → Settings → Keeper R → Walk → Type 0
IsTakenWalk view entries files settings keeper walk =
    IsOnTheWay (asked_world view files settings) (shown_in entries keeper.rows) walk

-- where a function succeeds, it is a turn of a keeper out of which a walk between two paths was taken
abbrev pub TurnsWalk : {F R E : Type 0} {asked : names.Ghosts F} → (F → FilesView) → (R → Entries)
    → Recorder F asked → Given → Keeper R → Keeper R → Result Refreshed E → Type 0
TurnsWalk view entries files given old new result =
    IfOk result (TurnsKeeper entries (asked_world view files given.settings.now) given.units
    (refresh_at (shown_in entries old.rows) no_spending) new)

-- where a function succeeds, it is a turn of a keeper out of which this walk was taken, and the path that is evaluated
abbrev pub TurnsAsked : {F R E : Type 0} {asked : names.Ghosts F} → (F → FilesView) → (R → Entries)
    → Recorder F asked → WritingAsk → ℕ → Keeper R → Keeper R → Result Refreshed E → Type 0
TurnsAsked view entries files asking units old new result =
    (settings : Settings)
    → IsAskOnTheWay (asked_world view files settings) (shown_in entries old.rows) asking.writing.walk asking.ask
    → IfOk result (TurnsKeeper entries (asked_world view files settings) units
    (refresh_at (shown_in entries old.rows) (spent_in asking.ask.ask)) new)

-- the same turn leaves the keeper right, where it succeeds
abbrev pub KeepsAsked : {F R E : Type 0} {asked : names.Ghosts F} → (F → FilesView) → (R → Entries)
    → Recorder F asked → WritingAsk → Keeper R → Keeper R → Result Refreshed E → Type 0
KeepsAsked view entries files asking old new result =
    (settings : Settings)
    → IsAskOnTheWay (asked_world view files settings) (shown_in entries old.rows) asking.writing.walk asking.ask
    → OnOk result (IsKept entries (asked_world view files settings) new)

-- where a function succeeds, it ends a turn in which the row of a path has come to this, on this walk
abbrev pub EndsPath : {R E : Type 0}
    → (R → Entries) → Walk → Spent → PathTurned → Keeper R → Keeper R → Result Refreshed E → Type 0
EndsPath entries walk before turned old new result =
    (world : World) (path : List ℕ) (units : ℕ) → IsReadyFor world (shown_in entries old.rows) walk path
    → TurnsPath world path units before turned
    → IfOk result (TurnsKeeper entries world units (refresh_at (shown_in entries old.rows) before) new)

-- the same turn leaves the keeper right, where it succeeds
abbrev pub KeepsEnded : {R E : Type 0}
    → (R → Entries) → Walk → Spent → PathTurned → Keeper R → Keeper R → Result Refreshed E → Type 0
KeepsEnded entries walk before turned old new result =
    (world : World) (path : List ℕ) (units : ℕ) → IsReadyFor world (shown_in entries old.rows) walk path
    → TurnsPath world path units before turned → OnOk result (IsKept entries world new)

-- ---- how a refresh ends

-- where a function succeeds, it ends the refresh whose walk is at its end
abbrev pub EndsWalk : {R A E : Type 0} → (R → Entries) → LastStage → Keeper R → Keeper R → Result A E → Type 0
EndsWalk entries last old new result =
    (world : World) → IsAtEnd world (shown_in entries old.rows) last
    → OnOk result (EndsRefresh world (refresh_at (shown_in entries old.rows) no_spending) (refresh_of entries new))

-- the same leaves the keeper right, where it succeeds
abbrev pub KeepsAtEnd : {R A E : Type 0} → (R → Entries) → LastStage → Keeper R → Keeper R → Result A E → Type 0
KeepsAtEnd entries last old new result =
    (world : World) → IsAtEnd world (shown_in entries old.rows) last → OnOk result (IsKept entries world new)

-- a keeper whose rows are right, with the paths of the index
abbrev pub current_with : {R : Type 0} → IndexPaths → Keeper R → Keeper R
current_with paths keeper = record keeper { progress = Current paths }

-- ---- a row that is put

-- this path has this row now, which isn't stale, and each other path is shown with what it had
abbrev pub PutsShownRow : {R : Type 0} → (R → Entries) → String Global → KeptRow → R → R → Type 0
PutsShownRow entries path row old new =
    (other : List ℕ) → shown_in entries new other
    ≡ (if bytes_eq (string_bytes path) other then Some (record { row = kept_row_seen row; stale = false }) else shown_in entries old other)
