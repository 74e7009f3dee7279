-- Rows that name the same paths.
use Rattle.std.specs.Prelude.{◌≡◌, ℕ, true, List, [], map}
use Rattle.port_rules.specs.Depends.{DependValue}
use Rattle.port_index.specs.declared.path_outcomes.Row.{Row}
use Rattle.port_index.specs.PathOutcomes.{PathOutcome}
use Rattle.port_index.specs.Seen.{row_seen}
use Rattle.port_index.specs.TreePaths.{listed_from, named_in}
use Rattle.port_index.specs.Dependencies.{targets_in}
use Rattle.port_index.specs.FilledRows.{is_one_of}
use Rattle.port_index.specs.Index.{needed_among}

-- the items of dependencies
abbrev pub dependency_items : List DependValue → List (List ℕ)
dependency_items depends = map (λ (depend : DependValue). depend.item) depends

-- At this path, two rows name the same paths, as a list of directories and as a port.
pub record NameAlike (path : List ℕ) (old new : PathOutcome) : Type 0 where
  pub words : named_in path new ≡ named_in path old
  pub items : targets_in new ≡ targets_in old

-- At any path, two rows name the same paths.
abbrev pub NameTheSame : Row → Row → Type 0
NameTheSame old new = (path : List ℕ) → NameAlike path (row_seen old) (row_seen new)

-- At this path, a row names no path.
pub record NamesNone (path : List ℕ) (row : PathOutcome) : Type 0 where
  pub words : named_in path row ≡ []
  pub items : targets_in row ≡ []

-- what each of these paths leads to names the same, before and now
abbrev pub AreAlikeAt : (List ℕ → PathOutcome) → (List ℕ → PathOutcome) → List (List ℕ) → Type 0
AreAlikeAt old new paths = (path : List ℕ) → is_one_of path paths ≡ true → NameAlike path (old path) (new path)

-- where rows name the same paths, the same paths are listed and needed
pub record AlikeRowsListTheSame : Type 0 where
  pub listed : (old new : List ℕ → PathOutcome) (directories : List (List ℕ)) → AreAlikeAt old new directories
      → listed_from new directories ≡ listed_from old directories
  pub needed : (old new : List ℕ → PathOutcome) (listed : List (List ℕ)) → AreAlikeAt old new listed
      → needed_among new listed ≡ needed_among old listed
