-- The one table, and then the other.
use Rattle.std.proofs.Common.{refl}
use Rattle.sql_facts.specs.States.{state_of}
use Rattle.sql_facts.proofs.Ending.{ok_then}
use Rattle.index_store.specs.PortTable.{rows_of, all_marked}
use Rattle.index_store.proofs.Composing.{both_changed, one_changed}
use Rattle.index_store.proofs.transactions.mark_tables.Goals as goal

pub returns-then-not-has_earlier-clause-made : goal.returns-then-not-has_earlier-clause-made
returns-then-not-has_earlier-clause-made c =
    one_changed all_marked (rows_of c.args.tx.now.conn.now) (state_of c.mark_table.new.tx.conn.now) refl
    (c.requires.earlier c.if-not-has_earlier.true) c.in_ok-mark_table.ensures.made

pub returns-clause-made : goal.returns-clause-made
returns-clause-made c =
    let both = both_changed all_marked (rows_of c.args.tx.now.conn.now) (rows_of c.mark_table.new.tx.conn.now)
    (state_of c.mark_table-2.new.tx.conn.now) in
    ok_then c.mark_table-2.result (both c.in_ok-mark_table.ensures.made.are) c.mark_table-2.ensures.made
