-- The rows of a table with a unique text key, and the map that they are.
use Rattle.std.specs.Prelude.{◌≡◌, ℕ, ℤ, pos, if◌then◌else◌, Bool, List, [], ◌∷◌, Option, find, map}
use Rattle.std.specs.Str.{bytes_eq}
use Rattle.sqlite_value.specs.declared.value.Value.{Value}
use Rattle.sqlite_value.specs.declared.value.Value.TheVariants.{Int, Text, Blob}
use Rattle.sqlite_value.specs.Order.{Row}
use Rattle.sqlite_trees.specs.View.{IsShaped}
use Rattle.sqlite_trees.specs.declared.store.Shape.TheVariants as Shapes
use Rattle.sqlite_rules.specs.Lists.{Has}

-- the number that a value is, or 0
abbrev pub number_in : Value → ℕ
number_in (Int (pos n)) = n
number_in _ = 0

-- the bytes of a text or a BLOB
abbrev pub bytes_in : Value → List ℕ
bytes_in (Text t) = t
bytes_in (Blob b) = b
bytes_in _ = []

-- what a row of a table says, and the columns that say it: the key comes first after the rowid
pub record Layout (E : Type 0) : Type 0 where
  pub entry : Row → E
  pub key : E → List ℕ
  pub rest : E → Row

-- the row of an entry, after a rowid
abbrev pub entry_row : {E : Type 0} → Layout E → ℤ → E → Row
entry_row layout id e = Int id ∷ Text (layout.key e) ∷ layout.rest e

-- a row whose columns are filled
abbrev pub IsRowOf : {E : Type 0} → Layout E → Row → Type 0
IsRowOf layout row = (id : ℤ) × (row ≡ entry_row layout id (layout.entry row))

-- the rows of a table: their rowids rise, each has its columns filled, and no two have the same key
pub record AreFilled {E : Type 0} (layout : Layout E) (rows : List Row) : Type 0 where
  pub rise : IsShaped Shapes.Table rows
  pub formed : (r : Row) → Has rows r → IsRowOf layout r
  pub once : (r s : Row) → Has rows r → Has rows s → layout.key (layout.entry r) ≡ layout.key (layout.entry s) → r ≡ s

-- an entry for each key that has one
abbrev pub EntriesByKey : Type 0 → Type 0
EntriesByKey E = List ℕ → Option E

-- whether an entry has this key
abbrev pub has_key : {E : Type 0} → Layout E → List ℕ → E → Bool
has_key layout key e = bytes_eq key (layout.key e)

-- the entries of these rows, by their keys
abbrev pub entries_of_rows : {E : Type 0} → Layout E → List Row → EntriesByKey E
entries_of_rows layout rows key = find (has_key layout key) (map layout.entry rows)

-- the entries, with what this makes of the one at a key
abbrev pub changed_at : {E : Type 0} → List ℕ → (Option E → Option E) → EntriesByKey E → EntriesByKey E
changed_at key change entries other = if bytes_eq key other then change (entries other) else entries other
