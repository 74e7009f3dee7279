-- The one table, and then the other.
use Rattle.sql_facts.specs.States.{state_of}
use Rattle.sql_facts.proofs.Ending.{ok_then}
use Rattle.index_store.specs.Marks.{mark_number}
use Rattle.index_store.specs.PortTable.{rows_of, marked_at}
use Rattle.index_store.proofs.Composing.{both_changed, one_changed, none_marked}
use Rattle.index_store.proofs.transactions.mark_path.Goals as goal

pub returns-then-not-has_earlier-clause-made : goal.returns-then-not-has_earlier-clause-made
returns-then-not-has_earlier-clause-made c =
    let marks = marked_at (mark_number c.args.mark) c.args.path.now in
    let none = none_marked (mark_number c.args.mark) c.args.path.now in
    one_changed marks (rows_of c.args.tx.now.conn.now) (state_of c.set_mark.new.tx.conn.now) none
    (c.requires.earlier c.if-not-has_earlier.true) c.in_ok-set_mark.ensures.made

pub returns-clause-made : goal.returns-clause-made
returns-clause-made c =
    let marks = marked_at (mark_number c.args.mark) c.args.path.now in
    let both =
    both_changed marks (rows_of c.args.tx.now.conn.now) (rows_of c.set_mark.new.tx.conn.now) (state_of c.set_mark-2.new.tx.conn.now) in
    ok_then c.set_mark-2.result (both c.in_ok-set_mark.ensures.made.are) c.set_mark-2.ensures.made
