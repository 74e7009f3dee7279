-- When the rows of an index are right.
use Rattle.std.specs.Prelude.{◌≡◌, ◌⊎◌, ◌&&◌, ℕ, if◌then◌else◌, Bool, true, false, List, map, Option, Some, None, is_some, Result}
use Rattle.std.specs.FinMap.{get}
use Rattle.std.specs.Result.{result_err}
use Rattle.std.specs.Str.{bytes_eq}
use Rattle.mk_paths.specs.World.{World, FileMap, files_in}
use Rattle.mk_paths.specs.FilesView.{Question, FilesView, failed, view_world}
use Rattle.mk_paths.specs.declared.files.FilesFault.{FilesFault}
use Rattle.mk_paths.specs.declared.files.Names as names
use Rattle.mk_paths.specs.declared.search_path.Settings.{Settings}
use Rattle.mk_eval.specs.Agreement.{Agrees}
use Rattle.port_index.specs.Efforts.{decided, has_makefile, is_there}
use Rattle.port_index.specs.FilledRows.{is_one_of}
use Rattle.port_index.specs.Index.{needed_paths}
use Rattle.port_index.specs.KeptFiles.{KeepsFiles}
use Rattle.port_index.specs.PathOutcomes.{Finding, PathOutcome, finding_at}
use Rattle.port_index.specs.PathQuestions.{questions_at}
use Rattle.port_index.specs.Spent.{SpendsOnPath}
use Rattle.turn_amounts.specs.declared.spent.Spent.{Spent}
use Rattle.read_trace.specs.Recorder.{view_of}
use Rattle.read_trace.specs.declared.recorder.Recorder.{Recorder}
use Rattle.eval_cache.specs.Cache.{CacheValue}
use Rattle.eval_cache.specs.CacheUse.{UsesCache}
use Rattle.index_row.specs.Rows.{RowValue}
use Rattle.index_keep.specs.Shown.{ShownRow, ShownRows, fresh}

-- the names that questions are about
abbrev pub names_in : List Question → List (List ℕ)
names_in questions = map (λ (question : Question). question.0) questions

-- the row that says what was found, and what was asked for that
abbrev pub row_with : Finding → List Question → RowValue
row_with found questions = record { outcome = found.outcome; cost = found.cost; names = names_in questions }

-- the row of a path in a world
abbrev pub right_row : World → List ℕ → RowValue
right_row world path = row_with (finding_at world path) (questions_at world path)

-- The row says what was found, and what was asked for that. Each question has the answer that the files give. So a change
-- of a file about which none of them asks leaves the row right.
pub record IsRowOfFinding (files : FileMap) (found : Finding) (questions : List Question) (row : RowValue) : Type 0 where
  pub same : row ≡ row_with found questions
  pub answered : Agrees files questions

-- the row is that of the path, and what was asked for it was answered as the world answers it
abbrev pub IsRightRow : World → List ℕ → RowValue → Type 0
IsRightRow world path row = IsRowOfFinding (files_in world) (finding_at world path) (questions_at world path) row

-- each row that isn't stale is right, and is that of a makefile
pub record AreKept (world : World) (rows : ShownRows) : Type 0 where
  pub right : (path : List ℕ) (row : ShownRow) → rows path ≡ Some row → row.stale ≡ false → IsRightRow world path row.row
  pub there : (path : List ℕ) (row : ShownRow) → rows path ≡ Some row → row.stale ≡ false → is_there row.row.outcome ≡ true

-- the row of a path in a world, not stale
abbrev pub fresh_row : World → List ℕ → ShownRow
fresh_row world path = record { row = right_row world path; stale = false }

-- the index depends on the path, whose makefile is there
abbrev pub is_evaluated : World → List ℕ → Bool
is_evaluated world path = is_one_of path (needed_paths world) && has_makefile world path

-- each path with a makefile on which the index depends has its row, none is stale, and no other path has a row
pub record AreCurrent (world : World) (rows : ShownRows) : Type 0 where
  pub each : (path : List ℕ) → rows path ≡ (if is_evaluated world path then Some (fresh_row world path) else None)

-- it is known of each of these paths what it leads to, by its row, or since it has no makefile
abbrev pub AreDecided : World → (List ℕ → Option PathOutcome) → List (List ℕ) → Type 0
AreDecided world entries paths = (path : List ℕ) → is_one_of path paths ≡ true → is_some (decided world entries path) ≡ true

-- each path with a makefile on which the index depends has a row that isn't stale
abbrev pub HaveFresh : World → ShownRows → Type 0
HaveFresh world rows = AreDecided world (fresh rows) (needed_paths world)

-- Two worlds with the same settings, in which each file but the one of this name is the same.
pub record DifferAt (name : List ℕ) (world other : World) : Type 0 where
  pub settings : other.1 ≡ world.1
  pub files : (file : List ℕ) → bytes_eq name file ≡ false → get (files_in other) file ≡ get (files_in world) file

-- One of these paths, whose makefile is there, had no row, or a stale one. Now it has its row, and so much was spent on
-- that. All other rows are as they were.
pub record RenewsOneOf (world : World) (paths : List (List ℕ)) (old new : ShownRows) (spending : Spent) : Type 0 where
  pub path : List ℕ
  pub needed : is_one_of path paths ≡ true
  pub lacking : decided world (fresh old) path ≡ None
  pub spent : SpendsOnPath world path spending
  pub rows : (other : List ℕ) → new other ≡ (if bytes_eq path other then Some (fresh_row world path) else old other)

-- the same of one of the paths on which the index depends
abbrev pub RenewsRow : World → ShownRows → ShownRows → Spent → Type 0
RenewsRow world old new spending = RenewsOneOf world (needed_paths world) old new spending

-- What work leaves of files. Their map stays. If the work failed, it may be that they failed, once.
abbrev pub LeavesFiles : Option FilesFault → FilesView → FilesView → Type 0
LeavesFiles None old new = KeepsFiles None old new
LeavesFiles (Some fault) old new =
    (new.files ≡ old.files) × ((new.failures ≡ old.failures) ⊎ (new.failures ≡ (failed old).failures))

-- the world of the files that a recorder asks, under these settings
abbrev pub asked_world : {F : Type 0} {asked : names.Ghosts F} → (F → FilesView) → Recorder F asked → Settings → World
asked_world view files settings = view_world (view_of view files) settings

-- what work leaves of the files that a recorder asks, by how the work ended
abbrev pub LeavesAskedFiles : {F A : Type 0} {asked : names.Ghosts F}
    → (F → FilesView) → Result A FilesFault → Recorder F asked → Recorder F asked → Type 0
LeavesAskedFiles view result old new = LeavesFiles (result_err result) (view_of view old) (view_of view new)

-- what work that asks a cache for evaluations leaves of the files that a recorder asks, and of the cache
abbrev pub UsesFilesAndCache : {F A : Type 0} {asked : names.Ghosts F} → (F → FilesView) → Result A FilesFault
    → Recorder F asked → Recorder F asked → CacheValue → CacheValue → Type 0
UsesFilesAndCache view result old new before after = LeavesAskedFiles view result old new × UsesCache before after
