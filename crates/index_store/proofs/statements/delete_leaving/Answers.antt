-- What the statement makes.
use Rattle.sql_facts.specs.States.{state_of}
use Rattle.index_store.proofs.Changing.{deletes_marked}
use Rattle.index_store.proofs.statements.delete_leaving.Goals as goal

pub returns-clause-made : goal.returns-clause-made
returns-clause-made c =
    let old = state_of c.args.tx.now.conn.now in
    let new = state_of c.run.new.tx.conn.now in
    deletes_marked c.args.part old new c.requires.formed (c.in_ok-run.field-0, rw c.delete_statement.ensures at c.in_ok-run.ensures.ran)
