-- What rows are written as.
use Rattle.std.proofs.Common.{◌≡◌, ℕ, List, [], ◌++◌, Some, sym, ap, ◌∙◌}
use Rattle.std.specs.Int.{w64}
use Rattle.std.proofs.lemmas.List.{append-nil}
use Rattle.port_index.specs.PathOutcomes.{PathOutcome}
use Rattle.index_row.specs.Reads.{give, ◌>>=◌, byte, number, texts}
use Rattle.index_row.specs.Rows.{RowValue, make_row, outcome_of_kind, outcome, row, row_of, whole_row}
use Rattle.index_row.specs.Answers.{Adds}
use Rattle.index_row.proofs.Adding.{Adds-then, Adds-last}

-- the number of a kind, and then what follows it
pub Adds-outcome : (old mid new : List ℕ) (kind : ℕ) (value : PathOutcome) → Adds byte old mid kind → Adds (outcome_of_kind kind) mid new
    value → Adds outcome old new value
unfolding outcome
Adds-outcome old mid new kind value one more = Adds-then byte (λ kind. outcome_of_kind kind) old mid new kind value one more

pub Adds-row : (old one two new : List ℕ) (value : PathOutcome) (cost : ℕ) (names : List (List ℕ)) → Adds outcome old one value
    → Adds (number w64) one two cost
    → Adds texts two new names → Adds row old new (make_row value cost names)
unfolding row
Adds-row old one two new value cost names p q r =
    Adds-then outcome (λ value. number w64 >>= λ cost. texts >>= λ names. give (make_row value cost names)) old one new value
    (make_row value cost names) p
    (Adds-then (number w64) (λ cost. texts >>= λ names. give (make_row value cost names)) one two new cost (make_row value cost names) q
    (Adds-last texts (make_row value cost) two new names r))

-- what was written alone is the row
pub row_of-written : (bytes : List ℕ) (value : RowValue) → Adds row [] bytes value → row_of bytes ≡ Some value
unfolding row_of
row_of-written bytes value written =
    let alone : bytes ≡ written.added ++ [] = written.are_added ∙ sym (append-nil written.added) in
    ap (λ text. whole_row (row text)) alone ∙ ap whole_row (written.are_read [])
