-- What follows from the rows of paths.
use Rattle.std.specs.Prelude.{◌≡◌, ℕ, ◌+◌, ◌||◌, Bool, true, List, ◌∷◌, [], Option, None, sum_by}
use Rattle.std.specs.List.{list_any}
use Rattle.mk_paths.specs.World.{World, files_in}
use Rattle.port_index.specs.PathOutcomes.{PathOutcome, outcome_at}
use Rattle.port_index.specs.TreePaths.{directories, listed_from}
use Rattle.port_index.specs.Dependencies.{roots_among, edges_among, targets_in}
use Rattle.port_index.specs.Index.{listed_paths, needed_among, needed_paths, roots, edges}
use Rattle.port_index.specs.FilledRows.{is_one_of, Fills}
use Rattle.port_index.specs.Efforts.{lacking}
use Rattle.port_index.specs.Seen.{known_in}

-- rows say what each of these paths leads to, which is nothing if it has no row
abbrev pub SayAll : World → (List ℕ → Option PathOutcome) → List (List ℕ) → Type 0
SayAll world entries paths = (path : List ℕ) → is_one_of path paths ≡ true → known_in entries path ≡ outcome_at world path

-- what the index is, by rows that say what each path leads to on which it depends
pub record KnownRowsAreEnough : Type 0 where
  -- the rows of directories say which paths are listed
  pub listed : (world : World) (entries : List ℕ → Option PathOutcome) → SayAll world entries (directories (files_in world))
      → listed_from (known_in entries) (directories (files_in world)) ≡ listed_paths world
  -- the rows of listed paths say which paths are needed
  pub needed : (world : World) (entries : List ℕ → Option PathOutcome) → SayAll world entries (listed_paths world)
      → needed_among (known_in entries) (listed_paths world) ≡ needed_paths world
  -- the rows of needed paths say which roots there are, and which dependencies
  pub roots : (world : World) (entries : List ℕ → Option PathOutcome) → SayAll world entries (needed_paths world)
      → roots_among (known_in entries) (listed_paths world) ≡ roots world
  pub edges : (world : World) (entries : List ℕ → Option PathOutcome) → SayAll world entries (needed_paths world)
      → edges_among (known_in entries) (listed_paths world) ≡ edges world

-- the path is named by an item of a port at one of these paths, by what each path leads to
abbrev pub is_target_among : (List ℕ → PathOutcome) → List (List ℕ) → List ℕ → Bool
is_target_among outcomes paths path = list_any (λ one. is_one_of path (targets_in (outcomes one))) paths

-- A path is needed if it is listed, or if an item of a port at a listed path names it.
abbrev pub NeededAreNamed : Type 0
NeededAreNamed =
    (outcomes : List ℕ → PathOutcome) (listed : List (List ℕ)) (path : List ℕ)
    → is_one_of path (needed_among outcomes listed) ≡ (is_one_of path listed || is_target_among outcomes listed path)

-- One of these paths, which had no row, gets its own. Whatever is counted for each path that has no row, what
-- is counted for this one is what the others are fewer by.
abbrev pub OneRowMoreLeavesLess : Type 0
OneRowMoreLeavesLess =
    (world : World) (weight : List ℕ → ℕ) (paths : List (List ℕ)) (path : List ℕ) (old new : List ℕ → Option PathOutcome)
    → is_one_of path paths ≡ true → old path ≡ None → Fills world (path ∷ []) old new
    → weight path + sum_by weight (lacking new paths) ≡ sum_by weight (lacking old paths)
