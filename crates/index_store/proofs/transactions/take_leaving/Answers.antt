-- The one table, and then the other.
use Rattle.std.proofs.Common.{refl}
use Rattle.sql_facts.specs.States.{state_of}
use Rattle.sql_facts.proofs.Ending.{ok_then}
use Rattle.index_store.specs.PortTable.{rows_of, staying_of}
use Rattle.index_store.proofs.Composing.{both_changed, one_changed}
use Rattle.index_store.proofs.transactions.take_leaving.Goals as goal

pub returns-then-not-has_earlier-clause-made : goal.returns-then-not-has_earlier-clause-made
returns-then-not-has_earlier-clause-made c =
    one_changed staying_of (rows_of c.args.tx.now.conn.now) (state_of c.delete_leaving.new.tx.conn.now) refl
    (c.requires.earlier c.if-not-has_earlier.true) c.in_ok-delete_leaving.ensures.made

pub returns-clause-made : goal.returns-clause-made
returns-clause-made c =
    let both = both_changed staying_of (rows_of c.args.tx.now.conn.now) (rows_of c.delete_leaving.new.tx.conn.now)
    (state_of c.delete_leaving-2.new.tx.conn.now) in
    ok_then c.delete_leaving-2.result (both c.in_ok-delete_leaving.ensures.made.are) c.delete_leaving-2.ensures.made
