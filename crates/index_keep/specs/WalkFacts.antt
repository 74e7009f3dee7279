-- What the private functions do of which a walk is made. Only their clauses use it.
use Rattle.std.specs.Prelude.{◌≡◌, ◌&&◌, ◌||◌, ℕ, Bool, true, List, map, Option, IfOk, OnOk, is_none, string_bytes, String, Result, Vec}
use Rattle.std.specs.Global.{Global}
use Rattle.mk_paths.specs.FilesView.{FilesView}
use Rattle.mk_paths.specs.World.{FileMap, World, files_in}
use Rattle.mk_paths.specs.declared.files.Names as names
use Rattle.mk_paths.specs.declared.search_path.Settings.{Settings}
use Rattle.read_trace.specs.declared.recorder.Recorder.{Recorder}
use Rattle.port_index.specs.FilledRows.{is_one_of}
use Rattle.port_index.specs.TreePaths.{AreInOrder, directories}
use Rattle.port_index.specs.Seen.{Said, entries_in, known_seen}
use Rattle.port_index.specs.declared.memory_rows.MemoryRows.{MemoryRows}
use Rattle.port_index.specs.declared.noted_rows.KnownRow.{KnownRow}
use Rattle.index_keep.specs.declared.refresh_start.Begun.{Begun}
use Rattle.index_keep.specs.declared.path_ask.FoundPath.{FoundPath}
use Rattle.index_keep.specs.declared.stage.Stage.{Stage}
use Rattle.index_keep.specs.declared.walk.DirectoryStage.{DirectoryStage}
use Rattle.index_keep.specs.declared.walk.LastStage.{LastStage}
use Rattle.index_keep.specs.declared.walk.ListedStage.{ListedStage}
use Rattle.index_keep.specs.declared.walk.Next.{Next}
use Rattle.index_keep.specs.declared.walk.Walk.{Walk}
use Rattle.index_keep.specs.Beside.{AreBeside, is_there_at}
use Rattle.index_keep.specs.Right.{asked_world}
use Rattle.index_keep.specs.Shown.{ShownRows}
use Rattle.index_keep.specs.Walk.{FindsNext, HasDirectories, HasListed, HasPassed, HasRowMore, IsDirectoryStage, IsLastStage, IsNext}
use Rattle.index_keep.specs.Walk.{IsOnTheWay, IsWalk, KnowsRow, ListsPaths, MayFollow, PassesStage, Says}

-- ---- the stage of the directories

-- where a function succeeds, a walk over these files begins with its stage, by what was begun over the index of before
abbrev pub BeginsStage : {E : Type 0} → FileMap → Begun → Bool → Result DirectoryStage E → Type 0
BeginsStage files begun serves result =
    (world : World) (rows : ShownRows) → files_in world ≡ files
    → Says rows begun.known → (serves ≡ true → MayFollow world rows begun) → IfOk result (IsDirectoryStage world rows)

-- the same where the index of before serves
abbrev pub FollowsLast : {E : Type 0} → Begun → Result DirectoryStage E → Type 0
FollowsLast begun result =
    (world : World) (rows : ShownRows) → MayFollow world rows begun → IfOk result (IsDirectoryStage world rows)

-- the same where these are the directories
abbrev pub BeginsAnew : {E : Type 0} → Vec (String Global) Global → Begun → Result DirectoryStage E → Type 0
BeginsAnew found begun result =
    (world : World) (rows : ShownRows) → Says rows begun.known
    → map string_bytes found.items ≡ directories (files_in world) → IfOk result (IsDirectoryStage world rows)

-- ---- what a walk comes to

-- where a function succeeds, a walk comes to what is next in the world that a recorder asks
abbrev pub ComesToNext : {F E : Type 0} {asked : names.Ghosts F}
    → (F → FilesView) → Recorder F asked → Settings → Walk → Result Next E → Type 0
ComesToNext view files settings walk result =
    (rows : ShownRows) → IsOnTheWay (asked_world view files settings) rows walk
    → IfOk result (IsNext (asked_world view files settings) rows)

-- where a function succeeds, its stage of listed paths comes after this one of directories
abbrev pub ComesToListed : {E : Type 0} → DirectoryStage → Result ListedStage E → Type 0
ComesToListed first result =
    (world : World) (rows : ShownRows) → HasDirectories world rows first → IfOk result (ListsPaths world rows first)

-- where a function succeeds, its last stage comes after this one of listed paths
abbrev pub ComesToLast : {F E : Type 0} {asked : names.Ghosts F}
    → (F → FilesView) → Recorder F asked → Settings → ListedStage → Result LastStage E → Type 0
ComesToLast view files settings next result =
    (rows : ShownRows) → HasListed (asked_world view files settings) rows next
    → IfOk result (IsLastStage (asked_world view files settings) rows)

-- where a function succeeds, it gives the walk that knows of one more fresh row, which says this of its path
abbrev pub WalksWithRow : {E : Type 0} → List ℕ → Said → Walk → Result Walk E → Type 0
WalksWithRow path said walk result =
    (world : World) (old new : ShownRows) → IsWalk world old walk
    → HasRowMore world path said old new → IfOk result (IsWalk world new)

-- ---- one stage

-- where a function succeeds, a stage passes the paths that need no row
abbrev pub PassesOn : {F E : Type 0} {asked : names.Ghosts F}
    → (F → FilesView) → Recorder F asked → Settings → Stage → Stage → Result (Option FoundPath) E → Type 0
PassesOn view files settings old new result =
    HasPassed (asked_world view files settings) old old.place → IfOk result (PassesStage (asked_world view files settings) old new)

-- where a function succeeds, it finds what comes next in a stage
abbrev pub FindsLacking : {F E : Type 0} {asked : names.Ghosts F}
    → (F → FilesView) → Recorder F asked → Settings → Stage → Result (Option (ℕ × FoundPath)) E → Type 0
FindsLacking view files settings stage result =
    HasPassed (asked_world view files settings) stage stage.place
    → IfOk result (FindsNext (asked_world view files settings) stage)

-- a stage knows what this row says of its path
abbrev pub LearnsRow : String Global → KnownRow → Stage → Stage → Type 0
LearnsRow path row old new = KnowsRow (string_bytes path) (known_seen row) old new

-- these are the paths that have no row
abbrev pub AreLacking : List (String Global) → MemoryRows → Vec (String Global) Global → Type 0
AreLacking paths known lacking =
    (path : List ℕ) → is_one_of path (map string_bytes lacking.items)
    ≡ (is_one_of path (map string_bytes paths) && is_none (entries_in known path))

-- where a function succeeds, its paths are those that are among others too, which are in order
abbrev pub FindsAmongBoth : {E : Type 0} → List (String Global) → List (String Global) → Result (Vec (String Global) Global) E → Type 0
FindsAmongBoth paths others result =
    AreInOrder (map string_bytes others)
    → IfOk result (λ found. (path : List ℕ) → is_one_of path (map string_bytes found.items)
    ≡ (is_one_of path (map string_bytes paths) && is_one_of path (map string_bytes others)))

-- ---- the paths beside the listed ones

-- where a function succeeds, its paths are those beside the listed ones
abbrev pub FindsBeside : {F E : Type 0} {asked : names.Ghosts F} → (F → FilesView)
    → Recorder F asked → Settings → MemoryRows → List (String Global) → Result (Vec (String Global) Global) E → Type 0
FindsBeside view files settings known listed result =
    IfOk result (λ beside. AreBeside (asked_world view files settings) known (map string_bytes listed) (map string_bytes beside.items))

-- where a function succeeds, it adds those of the paths that have a row or a makefile
abbrev pub AddsThere : {F A E : Type 0} {asked : names.Ghosts F} → (F → FilesView) → Recorder F asked → Settings → MemoryRows
    → Vec (String Global) Global → Vec (String Global) Global → Vec (String Global) Global → Result A E → Type 0
AddsThere view files settings known named old new result =
    OnOk result ((path : List ℕ) → is_one_of path (map string_bytes new.items)
    ≡ (is_one_of path (map string_bytes old.items)
    || (is_one_of path (map string_bytes named.items) && is_there_at (asked_world view files settings) known path)))

-- where a function succeeds, its answer tells whether a path has a row or a makefile
abbrev pub TellsThere : {F E : Type 0} {asked : names.Ghosts F} → (F → FilesView)
    → Recorder F asked → Settings → MemoryRows → List ℕ → Result Bool E → Type 0
TellsThere view files settings known path result =
    IfOk result (λ there. there ≡ is_there_at (asked_world view files settings) known path)
