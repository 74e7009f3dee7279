-- What a stored row is to a refresh.
use Rattle.std.specs.Prelude.{ℕ, if◌then◌else◌, Bool, true, false, List, [], ◌∷◌, Option, Some, None, option_and_then}
use Rattle.std.specs.Option.{option_map_or}
use Rattle.std.specs.Str.{bytes_eq}
use Rattle.port_index.specs.Seen.{Said, known_seen}
use Rattle.index_row.specs.Rows.{RowValue, row_of}
use Rattle.index_store.specs.Entries.{StoredValue, SeenRow, Entries, value_in}
use Rattle.index_keep.specs.Shown.{asked_one, said_by}
use Rattle.index_keep.specs.declared.refresh_start.Judged.{Judged}
use Rattle.index_keep.specs.declared.refresh_start.Judged.TheVariants as judged

-- A row that is fresh, and says this; or one that has to be marked, since it asked for a name that has changed.
-- Or one that is of no use: it is marked already, or there is no row.
pub data Judgement : Type 0 where
  Fresh : Said → Judgement
  Outdated : Judgement
  Unusable : Judgement

abbrev pub judge_row : (List ℕ → Bool) → Option RowValue → Judgement
judge_row test None = Unusable
judge_row test (Some row) = if asked_one test row then Outdated else Fresh (said_by row)

-- what a stored row is after the names that pass this test have changed
abbrev pub judge : (List ℕ → Bool) → StoredValue → Judgement
judge test stored = if stored.stale then Unusable else judge_row test (row_of stored.text)

abbrev pub judged_seen : Judged → Judgement
judged_seen (judged.Fresh row) = Fresh (known_seen row)
judged_seen judged.Outdated = Outdated
judged_seen judged.Unusable = Unusable

-- what a row that is fresh says
abbrev pub said_of : Judgement → Option Said
said_of (Fresh said) = Some said
said_of Outdated = None
said_of Unusable = None

abbrev pub is_outdated : Judgement → Bool
is_outdated (Fresh said) = false
is_outdated Outdated = true
is_outdated Unusable = false

-- what the row of a path says, if it is fresh
abbrev pub fresh_at : (List ℕ → Bool) → Entries → List ℕ → Option Said
fresh_at test entries path = option_and_then (λ (stored : StoredValue). said_of (judge test stored)) (entries path)

-- the row of a path has to be marked
abbrev pub outdated_at : (List ℕ → Bool) → Entries → List ℕ → Bool
outdated_at test entries path = option_map_or (λ (stored : StoredValue). is_outdated (judge test stored)) (entries path) false

-- what one row more says, if it says something, is known of its path
abbrev pub known_by : Option Said → List ℕ → (List ℕ → Option Said) → List ℕ → Option Said
known_by None at known path = known path
known_by (Some said) at known path = if bytes_eq at path then Some said else known path

-- one more row is known, if it is fresh
abbrev pub known_with : (List ℕ → Bool) → SeenRow → (List ℕ → Option Said) → List ℕ → Option Said
known_with test row known path = known_by (said_of (judge test (value_in row))) row.path known path

-- the path of a row that has to be marked
abbrev pub outdated_in : (List ℕ → Bool) → SeenRow → List (List ℕ)
outdated_in test row = if is_outdated (judge test (value_in row)) then row.path ∷ [] else []
