use Rattle.std.proofs.Common.{subst, List, ℕ}
use Rattle.index_row.specs.Rows.{row}
use Rattle.index_row.specs.Seen.{kept_row_seen}
use Rattle.index_row.specs.Answers.{Adds}
use Rattle.index_row.proofs.RowBytes.{row_of-written}
use Rattle.index_row.proofs.rows.write_row.Goals as goal

pub returns : goal.returns
returns c =
    row_of-written _ _
    (subst (λ (old : List ℕ). Adds row old c.write_parts.new.out.items (kept_row_seen c.args.row.now)) c.in_ok-out.ensures.items
    c.in_ok-write_parts.ensures)
