-- What an index has stored for its paths, and how calls change it.
use Rattle.std.specs.Prelude.{◌≡◌, ℕ, if◌then◌else◌, Bool, true, false, List, map, All}
use Rattle.std.specs.Prelude.{Option, None, Some, is_some, option_map, String, string_bytes, Vec}
use Rattle.std.specs.Global.{Global}
use Rattle.std.specs.List.{list_any}
use Rattle.std.specs.Str.{bytes_eq}
use Rattle.mk_text.specs.declared.profile.Profile.{Profile}
use Rattle.index_store.specs.declared.path_rows.StoredRow.{StoredRow}

-- what is stored for a path: whether its row is marked stale, and the row's bytes
pub record StoredValue : Type 0 where
  pub stale : Bool
  pub text : List ℕ

-- what is stored for each path; `None` where a path has no row
abbrev pub Entries : Type 0
Entries = List ℕ → Option StoredValue

-- the profile with which each path's row was written; `None` where a path has no row, and where the release
-- before wrote the row
abbrev pub Profiles : Type 0
Profiles = List ℕ → Option Profile

-- a row that is handed out, as clauses see it
pub record SeenRow : Type 0 where
  pub path : List ℕ
  pub stale : Bool
  pub text : List ℕ

abbrev pub stored_seen : StoredRow → SeenRow
stored_seen row = record { path = string_bytes row.path; stale = row.is_stale; text = row.text.items }

-- the path of a row
abbrev pub row_path : SeenRow → List ℕ
row_path row = row.path

-- what a row stores for its path
abbrev pub value_in : SeenRow → StoredValue
value_in row = record { stale = row.stale; text = row.text }

-- a path is one of these
abbrev pub is_one_of : List ℕ → List (List ℕ) → Bool
is_one_of path paths = list_any (λ one. bytes_eq one path) paths

-- these rows, in any order, are what is stored: each is right, and each path that has a row has one of them
pub record AreRowsOf (entries : Entries) (rows : List SeenRow) : Type 0 where
  pub each : All (λ row. entries row.path ≡ Some (value_in row)) rows
  pub all : (path : List ℕ) → is_some (entries path) ≡ is_one_of path (map row_path rows)

-- these paths, in any order, are those that have a row
abbrev pub ArePathsWithRow : Entries → List (List ℕ) → Type 0
ArePathsWithRow entries paths = (path : List ℕ) → is_one_of path paths ≡ is_some (entries path)

-- these rows that are handed out, in any order, are what is stored
abbrev pub AreStored : Entries → Vec StoredRow Global → Type 0
AreStored entries rows = AreRowsOf entries (map stored_seen rows.items)

-- these texts, in any order, are the paths that have a row
abbrev pub AreStoredPaths : Entries → Vec (String Global) Global → Type 0
AreStoredPaths entries paths = ArePathsWithRow entries (map string_bytes paths.items)

-- no path has a row
abbrev pub HasNoRow : Entries → Type 0
HasNoRow entries = (path : List ℕ) → entries path ≡ None

-- a row that isn't stale
abbrev pub fresh_value : List ℕ → StoredValue
fresh_value text = record { stale = false; text = text }

-- a row once it is marked
abbrev pub marked : StoredValue → StoredValue
marked value = record { stale = true; text = value.text }

-- all rows are as they were
abbrev pub SameRows : Entries → Entries → Type 0
SameRows old new = (path : List ℕ) → new path ≡ old path

-- this path has this row now, which isn't stale, and each other path has what it had
abbrev pub PutsRow : List ℕ → List ℕ → Entries → Entries → Type 0
PutsRow path text old new = (other : List ℕ) → new other ≡ (if bytes_eq path other then Some (fresh_value text) else old other)

-- the rows of these paths are marked stale, and the others are as they were
abbrev pub MarksRowsOf : List (List ℕ) → Entries → Entries → Type 0
MarksRowsOf paths old new = (path : List ℕ) → new path ≡ (if is_one_of path paths then option_map marked (old path) else old path)

-- the rows of the paths in these texts are marked stale, and the others are as they were
abbrev pub MarksStale : List (String Global) → Entries → Entries → Type 0
MarksStale paths old new = MarksRowsOf (map string_bytes paths) old new

-- all rows are marked stale
abbrev pub MarksAll : Entries → Entries → Type 0
MarksAll old new = (path : List ℕ) → new path ≡ option_map marked (old path)

-- these paths have no row, and each other path has what it had
abbrev pub TakesOut : List (List ℕ) → Entries → Entries → Type 0
TakesOut paths old new = (path : List ℕ) → new path ≡ (if is_one_of path paths then None else old path)

-- in a store, the paths in these texts have no row, and each other path has what it had
abbrev pub DropsRows : {S : Type 0} → (S → Entries) → List (String Global) → S → S → Type 0
DropsRows entries paths old new = TakesOut (map string_bytes paths) (entries old) (entries new)

-- ---- the profiles of the rows

-- each row was written with the profile that it had
abbrev pub SameProfiles : Profiles → Profiles → Type 0
SameProfiles old new = (path : List ℕ) → new path ≡ old path

-- the row of this path is written with this profile, and each other with the one that it had
abbrev pub PutsProfile : List ℕ → Option Profile → Profiles → Profiles → Type 0
PutsProfile path profile old new = (other : List ℕ) → new other ≡ (if bytes_eq path other then profile else old other)

-- these paths have no row, and each other row was written with the profile that it had
abbrev pub TakesProfilesOut : List (List ℕ) → Profiles → Profiles → Type 0
TakesProfilesOut paths old new = (path : List ℕ) → new path ≡ (if is_one_of path paths then None else old path)

-- in a store, each row was written with the profile that it had
abbrev pub KeepsProfiles : {S : Type 0} → (S → Profiles) → S → S → Type 0
KeepsProfiles profiles old new = SameProfiles (profiles old) (profiles new)

-- in a store, the row of this path is written with this profile, and each other with the one that it had
abbrev pub WritesWith : {S : Type 0} → (S → Profiles) → List ℕ → Profile → S → S → Type 0
WritesWith profiles path profile old new = PutsProfile path (Some profile) (profiles old) (profiles new)

-- in a store, the paths in these texts have no row, and each other row was written with the profile that it had
abbrev pub DropsProfiles : {S : Type 0} → (S → Profiles) → List (String Global) → S → S → Type 0
DropsProfiles profiles paths old new = TakesProfilesOut (map string_bytes paths) (profiles old) (profiles new)
