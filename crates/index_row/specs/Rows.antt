-- A row of the index, as bytes.
use Rattle.std.specs.Prelude.{ℕ, ◌==◌, if◌then◌else◌, List, [], ◌∷◌, Option, Some, None}
use Rattle.std.specs.Int.{w64}
use Rattle.port_index.specs.PathOutcomes.{PathOutcome, Absent, Faulty, Port, BadPort, Lists, BadList, FlavoredList, Other}
use Rattle.index_row.specs.Reads.{Read, give, refuse, ◌>>=◌, byte, number, texts}
use Rattle.index_row.specs.Faults.{fault}
use Rattle.index_row.specs.Ports.{port}

-- a row: what a path leads to, how many units it cost to learn that, and the names that were asked about
pub record RowValue : Type 0 where
  pub outcome : PathOutcome
  pub cost : ℕ
  pub names : List (List ℕ)

-- the row of these parts
abbrev pub make_row : PathOutcome → ℕ → List (List ℕ) → RowValue
make_row outcome cost names = record { outcome = outcome; cost = cost; names = names }

-- what a path leads to, after the number of its kind
abbrev pub outcome_of_kind : ℕ → Read PathOutcome
outcome_of_kind kind =
    if kind == 0 then give Absent
    else if kind == 1 then fault >>= (λ found. give (Faulty found))
    else if kind == 2 then port >>= (λ found. give (Port found))
    else if kind == 3 then fault >>= (λ found. give (BadPort found))
    else if kind == 4 then texts >>= (λ words. give (Lists words))
    else if kind == 5 then fault >>= (λ found. give (BadList found))
    else if kind == 6 then give FlavoredList
    else if kind == 7 then give Other
    else refuse

-- what a path leads to
unfoldable pub outcome : Read PathOutcome
outcome bytes = (byte >>= λ kind. outcome_of_kind kind) bytes

-- a row: what its path leads to, the units, and the names
unfoldable pub row : Read RowValue
row bytes = (outcome >>= λ outcome. number w64 >>= λ cost. texts >>= λ names. give (make_row outcome cost names)) bytes

-- this row, if no bytes are left after it
abbrev pub row_alone : RowValue → List ℕ → Option RowValue
row_alone value [] = Some value
row_alone value (byte ∷ rest) = None

-- a row that was read, if nothing follows it
abbrev pub whole_row : Option (RowValue × List ℕ) → Option RowValue
whole_row None = None
whole_row (Some found) = row_alone found.0 found.1

-- the row that bytes are, if they are one
unfoldable pub row_of : List ℕ → Option RowValue
row_of bytes = whole_row (row bytes)
