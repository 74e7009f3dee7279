-- The row gets its mark, and goes.
use Rattle.std.proofs.Common.{ap}
use Rattle.sql_facts.specs.States.{state_of}
use Rattle.sql_facts.proofs.Ending.{ok_then}
use Rattle.index_store.specs.declared.statements.Part.TheVariants.{Earlier, Current}
use Rattle.index_store.specs.PortTable.{Rows, rows_of, with_rows, staying_of, without}
use Rattle.index_store.proofs.Changing.{by_part}
use Rattle.index_store.proofs.Composing.{holds_as}
use Rattle.index_store.proofs.transactions.take_earlier.Goals as goal

pub returns-clause-made : goal.returns-clause-made
returns-clause-made c =
    let was = rows_of c.args.tx.now.conn.now in
    let mid = rows_of c.set_mark.new.tx.conn.now in
    let are = c.in_ok-set_mark.ensures.made.are in
    let wanted = with_rows Earlier (without c.args.path.now (was Earlier)) was in
    ok_then c.delete_leaving.result (holds_as (state_of c.delete_leaving.new.tx.conn.now)
    (with_rows Earlier (staying_of (mid Earlier)) mid) wanted
    (by_part _ _ (ap (λ (rows : Rows). staying_of (rows Earlier)) are) (ap (λ (rows : Rows). rows Current) are)))
    c.delete_leaving.ensures.made
