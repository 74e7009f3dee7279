-- A refresh that goes through paths.
use Rattle.std.specs.Global.{Global}
use Rattle.std.specs.Prelude.{◌≡◌, ℕ, ◌||◌, ◌&&◌, Bool, true, false, if◌then◌else◌, List, map, take, string_bytes, String, Vec}
use Rattle.std.specs.Prelude.{Option, Some, None, is_some, IfSome}
use Rattle.std.specs.Str.{bytes_eq}
use Rattle.mk_paths.specs.World.{World, files_in}
use Rattle.port_index.specs.Efforts.{decided, has_makefile}
use Rattle.port_index.specs.FilledRows.{is_one_of}
use Rattle.port_index.specs.Index.{listed_paths, needed_paths}
use Rattle.port_index.specs.TreePaths.{AreInOrder, directories, listed_from}
use Rattle.port_index.specs.Seen.{Said, entries_in, known_in, said_in}
use Rattle.port_index.specs.declared.memory_rows.MemoryRows.{MemoryRows}
use Rattle.index_keep.specs.declared.refresh_start.Begun.{Begun}
use Rattle.index_keep.specs.declared.stage.Stage.{Stage}
use Rattle.index_keep.specs.declared.walk.DirectoryStage.{DirectoryStage}
use Rattle.index_keep.specs.declared.walk.ListedStage.{ListedStage}
use Rattle.index_keep.specs.declared.walk.LastStage.{LastStage}
use Rattle.index_keep.specs.declared.walk.Next.{Next}
use Rattle.index_keep.specs.declared.walk.Next.TheVariants as next
use Rattle.index_keep.specs.declared.walk.Walk.{Walk}
use Rattle.index_keep.specs.declared.walk.Walk.TheVariants.{Directories, Listed, Needed}
use Rattle.index_keep.specs.Shown.{ShownRows, fresh, fresh_said}
use Rattle.index_keep.specs.Last.{HaveRowsAlone, Recalls, RecallsLists}
use Rattle.index_keep.specs.Paths.{IsFoundAt}
use Rattle.index_keep.specs.Right.{AreDecided, AreKept, HaveFresh}
use Rattle.index_keep.specs.declared.path_ask.FoundPath.{FoundPath}

-- rows in memory say what fresh rows say
abbrev pub Says : ShownRows → MemoryRows → Type 0
Says rows known = (path : List ℕ) → said_in known path ≡ fresh_said rows path

-- the paths of a stage
abbrev pub paths_of : Stage → List (List ℕ)
paths_of stage = map string_bytes stage.paths.items

-- A stage of a refresh goes through those of these paths that may lack a fresh row. It is known of the others what they
-- lead to, and of those that the stage has passed. It knows what all fresh rows say.
pub record IsStage (world : World) (rows : ShownRows) (paths : List (List ℕ)) (stage : Stage) : Type 0 where
  pub among : (path : List ℕ) → is_one_of path (paths_of stage) ≡ true → is_one_of path paths ≡ true
  pub others : (path : List ℕ) → is_one_of path paths ≡ true → is_one_of path (paths_of stage) ≡ false
      → is_some (decided world (fresh rows) path) ≡ true
  pub knows : Says rows stage.known
  pub passed : AreDecided world (fresh rows) (take stage.place (paths_of stage))

-- the directories that a stage of directories has
abbrev pub directories_in : DirectoryStage → List (List ℕ)
directories_in first = map string_bytes first.directories.items

-- the listed paths that a stage of them has
abbrev pub listed_of : ListedStage → List (List ℕ)
listed_of next = map string_bytes next.listed.items

-- the stage of the directories, with all of them; the lists of the index of before may be kept, if they are there
pub record IsDirectoryStage (world : World) (rows : ShownRows) (first : DirectoryStage) : Type 0 where
  pub stage : IsStage world rows (directories (files_in world)) first.stage
  pub directories : directories_in first ≡ directories (files_in world)
  pub lists : IfSome first.lists (RecallsLists world rows first.stage.known (directories_in first))

-- the same of the listed paths
pub record IsListedStage (world : World) (rows : ShownRows) (next : ListedStage) : Type 0 where
  pub stage : IsStage world rows (listed_paths world) next.stage
  pub directories : map string_bytes next.directories.items ≡ directories (files_in world)
  pub listed : listed_of next ≡ listed_paths world
  pub last : IfSome next.last (Recalls world rows next.stage.known (listed_of next))

-- With the listed paths, these are needed, and each needed path with a makefile is one of both. They are in order.
pub record AreNeededBeside (world : World) (beside : Vec (String Global) Global) : Type 0 where
  pub ordered : AreInOrder (map string_bytes beside.items)
  pub needed : (path : List ℕ) → is_one_of path (map string_bytes beside.items) ≡ true → is_one_of path (needed_paths world) ≡ true
  pub all : (path : List ℕ) → has_makefile world path ≡ true → is_one_of path (needed_paths world) ≡ true
      → (is_one_of path (listed_paths world) || is_one_of path (map string_bytes beside.items)) ≡ true

-- the paths beside the listed ones are known; or no path has a row but needed ones that have a makefile
abbrev pub KnowsBeside : World → ShownRows → Option (Vec (String Global) Global) → Type 0
KnowsBeside world rows (Some beside) = AreNeededBeside world beside
KnowsBeside world rows None = HaveRowsAlone world (needed_paths world) rows

-- the last stage, of needed paths, with the directories and the listed paths
pub record IsLastStage (world : World) (rows : ShownRows) (last : LastStage) : Type 0 where
  pub stage : IsStage world rows (needed_paths world) last.stage
  pub directories : map string_bytes last.directories.items ≡ directories (files_in world)
  pub listed : map string_bytes last.listed.items ≡ listed_paths world
  pub beside : KnowsBeside world rows last.beside

-- the listed paths are in order, and so are those beside them
abbrev pub HasOrder : LastStage → List (List ℕ) → Type 0
HasOrder last beside = AreInOrder (map string_bytes last.listed.items) × AreInOrder beside

-- the row of a path stays at the end of a last stage: the path is a listed one or one beside them, and has a fresh row
abbrev pub row_stays : LastStage → List (List ℕ) → List ℕ → Bool
row_stays last beside path =
    (is_one_of path (map string_bytes last.listed.items) || is_one_of path beside) && is_some (entries_in last.stage.known path)

-- A refresh that is under way goes through directories first, then through listed paths, then through those beside them on
-- which the index depends. In the first two, it may recall the index of before.
abbrev pub IsWalk : World → ShownRows → Walk → Type 0
IsWalk world rows (Directories first) = IsDirectoryStage world rows first
IsWalk world rows (Listed next) = IsListedStage world rows next
IsWalk world rows (Needed last) = IsLastStage world rows last

-- a refresh may begin with the lists of the index of before
pub record MayFollow (world : World) (rows : ShownRows) (begun : Begun) : Type 0 where
  pub says : Says rows begun.known
  pub directories : map string_bytes begun.directories.items ≡ directories (files_in world)
  pub lists : RecallsLists world rows begun.known (map string_bytes begun.directories.items) begun.lists

-- the rows are right, and a refresh is so far
pub record IsOnTheWay (world : World) (rows : ShownRows) (walk : Walk) : Type 0 where
  pub kept : AreKept world rows
  pub far : IsWalk world rows walk

-- the index depends on the path, whose makefile is there, and which has no fresh row
pub record IsLacking (world : World) (rows : ShownRows) (path : List ℕ) : Type 0 where
  pub needed : is_one_of path (needed_paths world) ≡ true
  pub lacking : decided world (fresh rows) path ≡ None

-- What a walk comes to next: a path with a makefile that has no fresh row, and where that is; or its end, once each
-- path with a makefile on which the index depends has one.
abbrev pub IsNext : World → ShownRows → Next → Type 0
IsNext world rows (next.Lacks walk found) =
    IsWalk world rows walk × IsLacking world rows (string_bytes found.path) × IsFoundAt world found
IsNext world rows (next.All last) = IsWalk world rows (Needed last) × HaveFresh world rows

-- A path that lacks a fresh row has one now, which says this. Each other path has the row that it had, or none as before.
pub record HasRowMore (world : World) (path : List ℕ) (said : Said) (old new : ShownRows) : Type 0 where
  pub lacking : IsLacking world old path
  pub says : (other : List ℕ) → fresh_said new other ≡ (if bytes_eq path other then Some said else fresh_said old other)
  pub there : (other : List ℕ) → is_some (new other) ≡ (bytes_eq path other || is_some (old other))

-- the paths before this place of a stage have fresh rows, or no makefile
abbrev pub HasPassed : World → Stage → ℕ → Type 0
HasPassed world stage place = AreDecided world (entries_in stage.known) (take place (paths_of stage))

-- a path of a stage has no fresh row, and this is its makefile
pub record LacksRow (world : World) (stage : Stage) (path : FoundPath) : Type 0 where
  pub among : is_one_of (string_bytes path.path) (paths_of stage) ≡ true
  pub lacking : entries_in stage.known (string_bytes path.path) ≡ None
  pub found : IsFoundAt world path

-- each path of a stage has a fresh row, or no makefile
abbrev pub LacksNone : World → Stage → Type 0
LacksNone world stage = AreDecided world (entries_in stage.known) (paths_of stage)

-- what comes next in a stage: the next path with a makefile that has no fresh row, and its place; or nothing
abbrev pub FindsNext : World → Stage → Option (ℕ × FoundPath) → Type 0
FindsNext world stage (Some at) = HasPassed world stage at.0 × LacksRow world stage at.1
FindsNext world stage None = LacksNone world stage

-- what a stage passes: it comes to the next path with a makefile that has no fresh row, or to its end
abbrev pub PassesStage : World → Stage → Stage → Option FoundPath → Type 0
PassesStage world old new (Some found) =
    (new ≡ record old { place = new.place }) × HasPassed world old new.place × LacksRow world old found
PassesStage world old new None = (new ≡ old) × LacksNone world old

-- the same stage knows what one more row says of its path
pub record KnowsRow (path : List ℕ) (said : Said) (old new : Stage) : Type 0 where
  pub paths : new.paths ≡ old.paths
  pub place : new.place ≡ old.place
  pub known : (other : List ℕ) → said_in new.known other ≡ (if bytes_eq path other then Some said else said_in old.known other)

-- a stage of directories is at its end
pub record HasDirectories (world : World) (rows : ShownRows) (first : DirectoryStage) : Type 0 where
  pub known : AreDecided world (entries_in first.stage.known) (directories_in first)
  pub lists : IfSome first.lists (RecallsLists world rows first.stage.known (directories_in first))

-- A stage of listed paths comes after that of directories, which are kept. The listed paths are those that the rows of these
-- say. The stage knows the same.
pub record ListsPaths (world : World) (rows : ShownRows) (first : DirectoryStage) (next : ListedStage) : Type 0 where
  pub listed : listed_of next ≡ listed_from (known_in (entries_in first.stage.known)) (directories_in first)
  pub directories : next.directories ≡ first.directories
  pub known : next.stage.known ≡ first.stage.known
  pub place : next.stage.place ≡ 0
  pub among : (path : List ℕ) → is_one_of path (paths_of next.stage) ≡ true → is_one_of path (listed_of next) ≡ true
  pub others : (path : List ℕ) → is_one_of path (listed_of next) ≡ true → is_one_of path (paths_of next.stage) ≡ false
      → is_some (decided world (entries_in next.stage.known) path) ≡ true
  pub last : IfSome next.last (Recalls world rows next.stage.known (listed_of next))

-- a stage of listed paths is at its end
pub record HasListed (world : World) (rows : ShownRows) (next : ListedStage) : Type 0 where
  pub kept : AreKept world rows
  pub far : IsListedStage world rows next
  pub known : AreDecided world (fresh rows) (listed_paths world)
