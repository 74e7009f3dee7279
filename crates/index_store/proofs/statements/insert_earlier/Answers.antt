-- What the statement makes.
use Rattle.sql_facts.specs.States.{state_of}
use Rattle.index_store.proofs.Changing.{inserts_earlier}
use Rattle.index_store.proofs.statements.insert_earlier.Goals as goal

pub returns-clause-made : goal.returns-clause-made
returns-clause-made c =
    let old = state_of c.args.tx.now.conn.now in
    let new = state_of c.run.new.tx.conn.now in
    inserts_earlier old new c.requires.open.formed c.args.path.now c.args.text.now c.requires.free
    (c.in_ok-run.field-0, rw (c.params-to_sql.ensures, c.params-to_sql-2.ensures) at c.in_ok-run.ensures.ran)
