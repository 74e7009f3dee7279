-- The row of a path, while it is made.
use Rattle.std.specs.Prelude.{◌≡◌, ℕ, ◌++◌, true, false, List, Option, Some, None, string_bytes}
use Rattle.std.specs.Str.{bytes_eq}
use Rattle.mk_paths.specs.World.{World, files_in}
use Rattle.mk_eval.specs.Meaning.{means}
use Rattle.mk_eval.specs.Agreement.{Agrees, questions_of}
use Rattle.eval_cache.specs.Keys.{key_for}
use Rattle.pkg_path.specs.Paths.{path_if_one}
use Rattle.port_index.specs.Efforts.{has_makefile}
use Rattle.port_index.specs.Pairs.{Pair, pair_at}
use Rattle.port_index.specs.PathOutcomes.{cost_at, finding_at, finding_of_evaluation, own_directory}
use Rattle.port_index.specs.PathQuestions.{questions_at}
use Rattle.port_index.specs.Spent.{SpendsOnPath}
use Rattle.turn_amounts.specs.declared.spent.Spent.{Spent}
use Rattle.index_row.specs.Rows.{RowValue}
use Rattle.index_row.specs.Seen.{kept_row_seen}
use Rattle.turn_amounts.specs.Spent.{IsUpFrom}
use Rattle.eval_ask.specs.Ask.{EvaluatesInTime, HasComeTo, IsShort, IsUpBy, MakesInTime, spent_in}
use Rattle.index_keep.specs.Right.{IsRightRow, row_with}
use Rattle.eval_ask.specs.declared.ask.Asked.{Asked}
use Rattle.index_keep.specs.declared.path_ask.FoundPath.{FoundPath}
use Rattle.index_keep.specs.declared.path_ask.MadeRow.{MadeRow}
use Rattle.index_keep.specs.declared.path_ask.NamedDirectory.{NamedDirectory}
use Rattle.index_keep.specs.declared.path_ask.NamedDirectory.TheVariants.{Own, OfPath}
use Rattle.index_keep.specs.declared.path_ask.PathAsk.{PathAsk}
use Rattle.index_keep.specs.declared.path_ask.PathTurned.{PathTurned}
use Rattle.index_keep.specs.declared.path_ask.PathTurned.TheVariants.{More, Made}

-- the directory that a path names, and the flavors with which its makefile is evaluated, if any are given
abbrev pub directory_named : NamedDirectory → List ℕ
directory_named Own = own_directory
directory_named (OfPath path) = path.directory

abbrev pub flavors_named : NamedDirectory → Option (List (List ℕ))
flavors_named Own = None
flavors_named (OfPath path) = path.flavors

-- it is the one that the path names; or the path names none
abbrev pub IsNamed : List ℕ → Option NamedDirectory → Type 0
IsNamed path None = (bytes_eq path own_directory ≡ false) × (path_if_one path ≡ None)
IsNamed path (Some Own) = bytes_eq path own_directory ≡ true
IsNamed path (Some (OfPath found)) = (bytes_eq path own_directory ≡ false) × (path_if_one path ≡ Some found)

-- The makefile of a path was found in a world, with the questions that were asked for that. What the path leads to, and
-- on which questions that depends, follows from the makefile's evaluation.
pub record IsFoundAt (world : World) (found : FoundPath) : Type 0 where
  pub finding : finding_at world (string_bytes found.path)
      ≡ finding_of_evaluation found.makefile (flavors_named found.named) (means world found.makefile (flavors_named found.named))
  pub questions : questions_at world (string_bytes found.path)
      ≡ found.placed ++ questions_of world.0 world.1 found.makefile (flavors_named found.named)
  pub pair : ◌≡◌ {A = Option Pair} (pair_at world (string_bytes found.path))
      (Some (record { makefile = found.makefile; flavors = flavors_named found.named }))
  pub answered : Agrees (files_in world) found.placed

-- what a path leads to: to this makefile, or to none
abbrev pub IsFoundOf : World → List ℕ → Option FoundPath → Type 0
IsFoundOf world path (Some found) = (string_bytes found.path ≡ path) × IsFoundAt world found
IsFoundOf world path None = has_makefile world path ≡ false

-- the row that is made of an evaluation which was asked for
abbrev pub row_made : FoundPath → Asked → RowValue
row_made found asked =
    row_with (finding_of_evaluation found.makefile (flavors_named found.named) asked.evaluation.value.outcome)
    (found.placed ++ asked.evaluation.value.trace)

-- the row of a path in a world is made, and so much was spent on it
pub record IsMade (world : World) (path : List ℕ) (made : MadeRow) : Type 0 where
  pub at : string_bytes made.path ≡ path
  pub row : IsRightRow world path (kept_row_seen made.row)
  pub spent : SpendsOnPath world path made.spent

-- the evaluation of a path's makefile is under way in a world, or at its end
pub record IsPathAsk (world : World) (path : List ℕ) (ask : PathAsk) : Type 0 where
  pub at : string_bytes ask.found.path ≡ path
  pub found : IsFoundAt world ask.found
  pub come : HasComeTo (files_in world) (key_for world.1 ask.found.makefile (flavors_named ask.found.named)) ask.ask

-- what was spent on the row of a path so far
abbrev pub spent_on_row : PathTurned → Spent
spent_on_row (Made made) = made.spent
spent_on_row (More ask) = spent_in ask.ask

-- nothing is taken back of what was spent before on the row of a path
abbrev pub IsUpTo : Spent → PathTurned → Type 0
IsUpTo before turned = IsUpFrom before (spent_on_row turned)

-- the row is made; or it isn't yet, and the units are spent that the turn was given
abbrev pub HasTurned : World → List ℕ → ℕ → Spent → PathTurned → Type 0
HasTurned world path units before (Made made) = IsMade world path made
HasTurned world path units before (More ask) = IsPathAsk world path ask × IsUpBy units before (spent_in ask.ask)

-- before the last thing that the turn did, fewer were spent
abbrev pub IsInTime : World → List ℕ → ℕ → Spent → PathTurned → Type 0
IsInTime world path units before (Made made) = MakesInTime world (cost_at world path) (pair_at world path) units before made.spent
IsInTime world path units before (More ask) = EvaluatesInTime world (pair_at world path) units before (spent_in ask.ask)

-- What a turn makes of the row of a path, on which so much was spent before.
pub record TurnsPath (world : World) (path : List ℕ) (units : ℕ) (before : Spent) (turned : PathTurned) : Type 0 where
  pub come : HasTurned world path units before turned
  pub in_time : IsInTime world path units before turned
  pub short : IsShort units before (spent_on_row turned)
