-- What a keeper of rows has, and when it is right about a world.
use Rattle.std.specs.Prelude.{◌≡◌, ◌⊎◌, ◌||◌, ◌&&◌, not, ℕ, Bool, true, List, [], Option, Some, None, IfSome, is_some, option_map}
use Rattle.std.specs.Prelude.{string_bytes, Result, IfOk}
use Rattle.std.specs.BTreeSet.{contains_text, keys}
use Rattle.std.specs.FinMap.{contains_key}
use Rattle.mk_paths.specs.World.{World, files_in}
use Rattle.mk_paths.specs.FilesView.{FilesView}
use Rattle.mk_paths.specs.declared.files.Names as names
use Rattle.mk_paths.specs.declared.search_path.Settings.{Settings}
use Rattle.read_trace.specs.declared.recorder.Recorder.{Recorder}
use Rattle.port_index.specs.Known.{ArePathsOf, IsIndexOf}
use Rattle.port_index.specs.Makefiles.{is_makefile}
use Rattle.port_index.specs.Seen.{size_of}
use Rattle.index_store.specs.Entries.{Entries}
use Rattle.index_keep.specs.declared.keeper.Progress.{Progress}
use Rattle.index_keep.specs.declared.keeper.Progress.TheVariants.{Changed, Walking, Asking, Current, AtHand}
use Rattle.index_keep.specs.declared.keeper.Keeper.{Keeper}
use Rattle.index_keep.specs.declared.keeper.Refreshed.{Refreshed}
use Rattle.index_keep.specs.declared.keeper.Refreshed.TheVariants.{Done}
use Rattle.index_keep.specs.Shown.{ShownRows, ShowsSame, made_stale, no_name, shown, stale_if_asked}
use Rattle.index_keep.specs.Last.{IsHeld, SaysAll}
use Rattle.index_keep.specs.declared.last_index.HeldIndex.{HeldIndex}
use Rattle.turn_amounts.specs.Spent.{no_spending}
use Rattle.turn_amounts.specs.declared.spent.Spent.{Spent}
use Rattle.index_keep.specs.declared.path_ask.PathAsk.{PathAsk}
use Rattle.index_keep.specs.declared.walk.LastStage.{LastStage}
use Rattle.index_keep.specs.declared.walk.Walk.{Walk}
use Rattle.index_keep.specs.declared.walk.Walk.TheVariants.{Needed}
use Rattle.eval_ask.specs.Ask.{spent_in}
use Rattle.index_keep.specs.Paths.{IsPathAsk}
use Rattle.index_keep.specs.Right.{AreKept, AreCurrent, DifferAt, HaveFresh, asked_world}
use Rattle.index_keep.specs.Turns.{DropsTurn, RefreshView, IsRefreshTurn, refresh_at}
use Rattle.index_keep.specs.Walk.{IsWalk, IsLacking}

-- the path that is evaluated
abbrev pub path_evaluated : PathAsk → List ℕ
path_evaluated ask = string_bytes ask.found.path

-- The index that was at hand before files changed is so still. Or a refresh goes on where it stopped. Or the rows are
-- current, and the paths of the index are known, or the whole index.
abbrev pub IsProgress : World → ShownRows → Progress → Type 0
IsProgress world rows (Changed names last) = IfSome last (IsHeld (contains_text names) world rows)
IsProgress world rows (Walking walk) = IsWalk world rows walk
IsProgress world rows (Asking walk ask) =
    IsWalk world rows walk × IsLacking world rows (path_evaluated ask) × IsPathAsk world (path_evaluated ask) ask
IsProgress world rows (Current paths) = AreCurrent world rows × ArePathsOf world paths
IsProgress world rows (AtHand index) = AreCurrent world rows × IsIndexOf world index × SaysAll rows index.rows

-- the names that have changed since a refresh began last
abbrev pub changed_in : Progress → List ℕ → Bool
changed_in (Changed names last) = contains_text names
changed_in (Walking walk) = no_name
changed_in (Asking walk ask) = no_name
changed_in (Current paths) = no_name
changed_in (AtHand index) = no_name

-- the rows of a keeper, as they are shown, by what is stored
abbrev pub keeper_rows : {R : Type 0} → (R → Entries) → Keeper R → ShownRows
keeper_rows entries keeper = shown (changed_in keeper.progress) (entries keeper.rows)

-- what was spent so far on a path that is evaluated
abbrev pub begun_in : Progress → Spent
begun_in (Changed names last) = no_spending
begun_in (Walking walk) = no_spending
begun_in (Asking walk ask) = spent_in ask.ask
begun_in (Current paths) = no_spending
begun_in (AtHand index) = no_spending

-- how far the refresh of a keeper is
abbrev pub refresh_of : {R : Type 0} → (R → Entries) → Keeper R → RefreshView
refresh_of entries keeper = refresh_at (keeper_rows entries keeper) (begun_in keeper.progress)

-- The rows are right. A walk has come to a path that has no fresh row.
pub record IsReadyFor (world : World) (rows : ShownRows) (walk : Walk) (path : List ℕ) : Type 0 where
  pub kept : AreKept world rows
  pub far : IsWalk world rows walk
  pub lacking : IsLacking world rows path

-- the same, and the path's evaluation is under way
pub record IsAskOnTheWay (world : World) (rows : ShownRows) (walk : Walk) (ask : PathAsk) : Type 0 where
  pub ready : IsReadyFor world rows walk (path_evaluated ask)
  pub under : IsPathAsk world (path_evaluated ask) ask

-- The rows are right. A walk is at its end, and each path on which the index depends has a fresh row.
pub record IsAtEnd (world : World) (rows : ShownRows) (last : LastStage) : Type 0 where
  pub kept : AreKept world rows
  pub far : IsWalk world rows (Needed last)
  pub fresh : HaveFresh world rows

-- a keeper is right about a world: each row that isn't stale is right, and a refresh goes on where it stopped
pub record IsKept {R : Type 0} (entries : R → Entries) (world : World) (keeper : Keeper R) : Type 0 where
  pub rows : AreKept world (keeper_rows entries keeper)
  pub progress : IsProgress world (keeper_rows entries keeper) keeper.progress

-- it is right about the world that a recorder asks under these settings
abbrev pub IsKeptOver : {F R : Type 0} {asked : names.Ghosts F}
    → (F → FilesView) → (R → Entries) → Recorder F asked → Settings → Keeper R → Type 0
IsKeptOver view entries files settings keeper = IsKept entries (asked_world view files settings) keeper

-- a keeper that was right about a world is right about it still
abbrev pub StaysKept : {R : Type 0} → (R → Entries) → Keeper R → Keeper R → Type 0
StaysKept entries old new = (world : World) → IsKept entries world old → IsKept entries world new

-- the same rows of a keeper are shown
abbrev pub KeepsShown : {R : Type 0} → (R → Entries) → Keeper R → Keeper R → Type 0
KeepsShown entries old new = ShowsSame (keeper_rows entries old) (keeper_rows entries new)

-- the rows of a keeper are stale now that asked for this name, and each other row is shown as it was
abbrev pub MakesAskingStale : {R : Type 0} → (R → Entries) → List ℕ → Keeper R → Keeper R → Type 0
MakesAskingStale entries name old new =
    (path : List ℕ) → keeper_rows entries new path ≡ option_map (stale_if_asked name) (keeper_rows entries old path)

-- all rows of a keeper are stale now
abbrev pub MakesAllStale : {R : Type 0} → (R → Entries) → Keeper R → Keeper R → Type 0
MakesAllStale entries old new = (path : List ℕ) → keeper_rows entries new path ≡ option_map made_stale (keeper_rows entries old path)

-- the index is refreshed and at hand, and nothing has changed since
abbrev pub IsEnded : Progress → Type 0
IsEnded (Changed names last) = ⊥
IsEnded (Walking walk) = ⊥
IsEnded (Asking walk ask) = ⊥
IsEnded (Current paths) = ⊥
IsEnded (AtHand index) = Unit {0}

-- if the index is at hand, its dependencies are kept with it
abbrev pub HasEdges : Progress → Type 0
HasEdges (Changed names last) = Unit {0}
HasEdges (Walking walk) = Unit {0}
HasEdges (Asking walk ask) = Unit {0}
HasEdges (Current paths) = Unit {0}
HasEdges (AtHand index) = is_some index.edges ≡ true

-- how many bytes the rows of the index have, if it is at hand
abbrev pub size_in : Progress → Option ℕ
size_in (Changed names last) = None
size_in (Walking walk) = None
size_in (Asking walk ask) = None
size_in (Current paths) = None
size_in (AtHand index) = Some (size_of index.rows)

abbrev pub size_at_hand : {R : Type 0} → Keeper R → Option ℕ
size_at_hand keeper = size_in keeper.progress

abbrev pub IsDone : {R : Type 0} → Keeper R → Type 0
IsDone keeper = IsEnded keeper.progress

-- What a turn does that is given some units: how far the refresh was before, and the keeper after it. If the turn ends
-- the refresh, the index is at hand.
pub record TurnsKeeper {R : Type 0} (entries : R → Entries) (world : World) (units : ℕ)
    (old : RefreshView) (new : Keeper R) (turned : Refreshed) : Type 0 where
  pub turn : IsRefreshTurn world units old (refresh_of entries new) turned
  pub done : turned ≡ Done → IsDone new

-- where a function succeeds, it is a turn of a keeper over the world that a recorder asks, with so many units
abbrev pub RunsTurn : {F R E : Type 0} {asked : names.Ghosts F} → (F → FilesView) → (R → Entries)
    → Recorder F asked → Settings → ℕ → Keeper R → Keeper R → Result Refreshed E → Type 0
RunsTurn view entries files settings units old new result =
    IfOk result (TurnsKeeper entries (asked_world view files settings) units (refresh_of entries old) new)

-- a turn of a keeper failed: its rows are shown as they were, and nothing is under way
abbrev pub DropsKeeperTurn : {R : Type 0} → (R → Entries) → Keeper R → Keeper R → Type 0
DropsKeeperTurn entries old new = DropsTurn (refresh_of entries old) (refresh_of entries new)

-- it is told of a file before a change that it is there only if it is
abbrev pub TellsPresence : World → List ℕ → Bool → Type 0
TellsPresence world name is_there = is_there ≡ true → contains_key (files_in world) name ≡ true

-- A keeper that was right about the world before a change is right about it still, if it is told rightly whether the file
-- of this name is there.
abbrev pub StaysKeptIfTold : {R : Type 0} → (R → Entries) → List ℕ → Bool → Keeper R → Keeper R → Type 0
StaysKeptIfTold entries name is_there old new =
    (world : World) → TellsPresence world name is_there → IsKept entries world old → IsKept entries world new

-- the same of the world after the change, in which the file of this name differs
abbrev pub IsKeptAcross : {R : Type 0} → (R → Entries) → List ℕ → Bool → Keeper R → Keeper R → Type 0
IsKeptAcross entries name is_there old new =
    (world other : World) → DifferAt name world other
    → TellsPresence world name is_there → IsKept entries world old → IsKept entries other new

-- a file is there before a change, or is no makefile
abbrev pub stays_there : List ℕ → Bool → Bool
stays_there name is_there = is_there || not (is_makefile name)

-- an index of before, after one more change
abbrev pub held_after : Bool → HeldIndex → HeldIndex
held_after stays held = record held { were_there = held.were_there && stays }

-- the index that is in memory from before a change
abbrev pub last_in : Bool → Progress → Option HeldIndex
last_in stays (Changed names last) = option_map (held_after stays) last
last_in stays (Walking walk) = None
last_in stays (Asking walk ask) = None
last_in stays (Current paths) = None
last_in stays (AtHand index) = Some (record { index = index; were_there = stays })

-- no refresh is under way or done, and this index is in memory from before a change
abbrev pub IsDropped : Option HeldIndex → Progress → Type 0
IsDropped before (Changed names last) = last ≡ before
IsDropped before (Walking walk) = ⊥
IsDropped before (Asking walk ask) = ⊥
IsDropped before (Current paths) = ⊥
IsDropped before (AtHand index) = ⊥

-- a refresh is under way or done no more, and an index that was in memory still is
abbrev pub DropsTo : Bool → Progress → Progress → Type 0
DropsTo stays old new = IsDropped (last_in stays old) new

-- no name is known to have changed since, and no refresh is under way or done
abbrev pub HasForgotten : Progress → Type 0
HasForgotten (Changed names last) = (keys names ≡ []) × (last ≡ None)
HasForgotten (Walking walk) = ⊥
HasForgotten (Asking walk ask) = ⊥
HasForgotten (Current paths) = ⊥
HasForgotten (AtHand index) = ⊥

-- a refresh that is under way is dropped; names that have changed, and an index that is current, stay
abbrev pub Halts : Progress → Progress → Type 0
Halts (Changed names last) new = new ≡ Changed names last
Halts (Walking walk) new = HasForgotten new
Halts (Asking walk ask) new = HasForgotten new
Halts (Current paths) new = new ≡ Current paths
Halts (AtHand index) new = new ≡ AtHand index

-- a refresh goes on as before, or not at all
abbrev pub Stops : Progress → Progress → Type 0
Stops old new = (new ≡ old) ⊎ HasForgotten new
