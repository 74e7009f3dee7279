-- What one turn of a refresh does.
use Rattle.std.specs.Prelude.{◌≡◌, ◌≤◌, ℕ, ◌+◌, ◌-◌, ◌*◌, min, true, is_some, List, []}
use Rattle.std.specs.List.{sum_by}
use Rattle.mk_base.specs.declared.budget.TheConstants.{UNITS}
use Rattle.turn_amounts.specs.declared.TheConstants.{MOST_CHECKS}
use Rattle.mk_paths.specs.World.{World}
use Rattle.port_index.specs.Efforts.{cost_over, decided, evaluations_over, lacking}
use Rattle.port_index.specs.FilledRows.{is_one_of}
use Rattle.port_index.specs.Index.{needed_paths}
use Rattle.port_index.specs.Pairs.{pair_at}
use Rattle.port_index.specs.PathOutcomes.{cost_at}
use Rattle.turn_amounts.specs.Spent.{no_spending, spent_in_all, total_of}
use Rattle.port_index.specs.Spent.{ChecksFew}
use Rattle.turn_amounts.specs.declared.spent.Spent.{Spent}
use Rattle.index_keep.specs.declared.keeper.Refreshed.{Refreshed}
use Rattle.index_keep.specs.declared.keeper.Refreshed.TheVariants.{Evaluated, More, Done}
use Rattle.eval_ask.specs.Ask.{EvaluatesInTime, IsShort, MakesInTime}
use Rattle.index_keep.specs.Shown.{ShownRows, ShowsSame, fresh}
use Rattle.index_keep.specs.Right.{HaveFresh, AreCurrent, RenewsRow}
use Rattle.index_keep.specs.Walk.{IsLacking}

-- How far a refresh is: the rows as they are shown, and what was spent so far on a path that is evaluated.
pub record RefreshView : Type 0 where
  pub rows : ShownRows
  pub begun : Spent

abbrev pub refresh_at : ShownRows → Spent → RefreshView
refresh_at rows begun = record { rows = rows; begun = begun }

-- A path was evaluated: one row was renewed, on which this was spent with what was spent before.
abbrev pub RenewsOne : World → RefreshView → RefreshView → Spent → Type 0
RenewsOne world old new spent =
    RenewsRow world old.rows new.rows (spent_in_all old.begun spent) × (new.begun ≡ no_spending)

-- the paths that are left to be evaluated: those with a makefile on which the index depends, and which have no fresh row
abbrev pub paths_left : World → ShownRows → List (List ℕ)
paths_left world rows = lacking (decided world (fresh rows)) (needed_paths world)

-- how many these are
abbrev pub count_left : World → ShownRows → ℕ
count_left world rows = sum_by (λ path. 1) (paths_left world rows)

-- what these cost
abbrev pub cost_left : World → ShownRows → ℕ
cost_left world rows = cost_over world (paths_left world rows)

-- how many makefiles are evaluated for these
abbrev pub evaluations_left : World → ShownRows → ℕ
evaluations_left world rows = evaluations_over world (paths_left world rows)

-- What was spent so far on a path is no more than what the paths cost that are left, and few answers were checked for
-- each of their makefiles.
pub record IsWithinLeft (world : World) (refresh : RefreshView) : Type 0 where
  pub units : refresh.begun.units ≤ cost_left world refresh.rows
  pub checks : ChecksFew (evaluations_left world refresh.rows) refresh.begun.checks

-- A path was evaluated in a turn that was given some units: its row is renewed. Before it was made, the turn had spent
-- fewer than its units.
pub record Evaluates (world : World) (units : ℕ) (old new : RefreshView) (spent : Spent) : Type 0 where
  pub renews : RenewsOne world old new spent
  pub in_time : MakesInTime world (cost_at world renews.0.path) (pair_at world renews.0.path) units old.begun
      (spent_in_all old.begun spent)
  pub short : IsShort units old.begun (spent_in_all old.begun spent)

-- A path that is left has no row yet. The turn has spent its units, of which each checked answer was one. Before the last
-- thing that was done, it had spent fewer.
pub record ContinuesRefresh (world : World) (units : ℕ) (old new : RefreshView) (spent : Spent) : Type 0 where
  pub rows : ShowsSame old.rows new.rows
  pub path : List ℕ
  pub lacking : IsLacking world old.rows path
  pub begun : new.begun ≡ spent_in_all old.begun spent
  pub enough : units ≤ total_of spent
  pub within : IsWithinLeft world new
  pub in_time : EvaluatesInTime world (pair_at world path) units old.begun (spent_in_all old.begun spent)
  pub short : IsShort units old.begun (spent_in_all old.begun spent)

-- No row was left to be renewed, and the rows are those of the index.
pub record EndsRefresh (world : World) (old new : RefreshView) : Type 0 where
  pub nothing_begun : old.begun ≡ no_spending
  pub fresh : HaveFresh world old.rows
  pub current : AreCurrent world new.rows
  pub nothing_left : new.begun ≡ no_spending

-- what a turn does that is given some units
abbrev pub IsRefreshTurn : World → ℕ → RefreshView → RefreshView → Refreshed → Type 0
IsRefreshTurn world units old new (Evaluated spent) = Evaluates world units old new spent
IsRefreshTurn world units old new (More spent) = ContinuesRefresh world units old new spent
IsRefreshTurn world units old new Done = EndsRefresh world old new

-- what was spent in a turn
abbrev pub spent_by : Refreshed → Spent
spent_by (Evaluated spent) = spent
spent_by (More spent) = spent
spent_by Done = no_spending

-- how many units are left to be spent on a refresh
abbrev pub units_left : World → RefreshView → ℕ
units_left world refresh = cost_left world refresh.rows - refresh.begun.units

-- of an evaluation for which so many answers were checked, at most these units aren't spent: all, if it was kept
abbrev pub units_saved : ℕ → ℕ
units_saved checks = UNITS * min checks 1

-- What is taken off the units that are left is spent. Only the evaluation that was under way may have been kept, and one
-- more for which answers were checked.
abbrev pub PaysAll : World → RefreshView → RefreshView → Spent → Type 0
PaysAll world old new spent =
    units_left world old ≤ (units_left world new + spent.units) + (units_saved old.begun.checks + units_saved spent.checks)

-- each path on which the index depends, and which had a fresh row or no makefile, has so still
abbrev pub StayFresh : World → ShownRows → ShownRows → Type 0
StayFresh world old new =
    (path : List ℕ) → is_one_of path (needed_paths world) ≡ true
    → is_some (decided world (fresh old) path) ≡ true → is_some (decided world (fresh new) path) ≡ true

-- a turn that failed: all rows are as they were, and nothing is under way
pub record DropsTurn (old new : RefreshView) : Type 0 where
  pub rows : ShowsSame old.rows new.rows
  pub begun : new.begun ≡ no_spending

-- what turns leave to be done
pub record RefreshingPays : Type 0 where
  -- a row that is renewed leaves less to be done, by at least what was spent on it
  pub renews : (world : World) (old new : RefreshView) (spent : Spent) → RenewsOne world old new spent
      → ((old.begun.units + spent.units) + cost_left world new.rows ≤ cost_left world old.rows)
      × ((old.begun.checks + spent.checks) + MOST_CHECKS * evaluations_left world new.rows
      ≤ MOST_CHECKS * evaluations_left world old.rows)
  -- and one path fewer
  pub fewer : (world : World) (old new : RefreshView) (spent : Spent) → RenewsOne world old new spent
      → 1 + count_left world new.rows ≡ count_left world old.rows
  -- and one evaluation fewer, if anything was spent on it
  pub evaluated : (world : World) (old new : RefreshView) (spent : Spent) → RenewsOne world old new spent
      → 1 ≤ total_of (spent_in_all old.begun spent)
      → 1 + evaluations_left world new.rows ≡ evaluations_left world old.rows
  -- rows that are those of the index leave nothing to be done
  pub ends : (world : World) (rows : ShownRows) → AreCurrent world rows → paths_left world rows ≡ []
  -- what a turn takes off the units that are left is spent in it, unless evaluations were kept
  pub pays : (world : World) (units : ℕ) (old new : RefreshView) (turned : Refreshed) → IsRefreshTurn world units old new turned
      → PaysAll world old new (spent_by turned)
