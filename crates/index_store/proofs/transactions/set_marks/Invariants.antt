-- The rows of the paths up to here have the mark.
use Rattle.std.proofs.Common.{map, take, string_bytes}
use Rattle.sql_facts.specs.States.{KeepsCommit, state_of}
use Rattle.index_store.specs.Marks.{mark_number}
use Rattle.index_store.specs.PortTable.{HoldsInside, rows_of, marked_among}
use Rattle.index_store.proofs.transactions.set_marks.Given as goal

abbrev pub invariant-loop-path : goal.invariant-loop-path
invariant-loop-path l = record {
  kept : KeepsCommit l.fn.tx.conn l.tx.conn;
  made : HoldsInside (state_of l.tx.conn.now) (λ part. marked_among (mark_number l.mark) (map string_bytes (take l.path-index l.paths))
      (rows_of l.fn.tx.conn.now part));
}
