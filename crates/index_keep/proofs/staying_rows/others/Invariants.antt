-- The others so far are those of the paths up to here.
use Rattle.std.proofs.Common.{◌≡◌, ℕ, List, ◌&&◌, not, map, string_bytes}
use Rattle.port_index.specs.FilledRows.{is_one_of}
use Rattle.index_keep.specs.StayingRows.{FindsStaying}
use Rattle.index_keep.specs.Walk.{HasOrder, row_stays}
use Rattle.index_keep.proofs.staying_rows.others.Given as goal

abbrev pub invariant-loop-path : goal.invariant-loop-path
invariant-loop-path l = record {
  finds : FindsStaying l.fn.last (map string_bytes l.fn.beside) l.staying;
  others : HasOrder l.fn.last (map string_bytes l.fn.beside) → (path : List ℕ) → is_one_of path (map string_bytes l.others.items)
      ≡ (is_one_of path (map string_bytes l.yielded) && not (row_stays l.fn.last (map string_bytes l.fn.beside) path));
}
