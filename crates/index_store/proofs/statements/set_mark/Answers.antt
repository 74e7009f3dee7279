-- What the statement makes.
use Rattle.sql_facts.specs.States.{state_of}
use Rattle.index_store.specs.Marks.{mark_number}
use Rattle.index_store.proofs.Changing.{marks_row}
use Rattle.index_store.proofs.statements.set_mark.Goals as goal

pub returns-clause-made : goal.returns-clause-made
returns-clause-made c =
    let old = state_of c.args.tx.now.conn.now in
    let new = state_of c.run.new.tx.conn.now in
    marks_row c.args.part old new c.requires.formed c.args.path.now (mark_number c.args.mark) (
      c.in_ok-run.field-0,
      rw (c.mark_statement.ensures, c.params-to_sql.ensures, c.params-to_sql-2.ensures, c.number.ensures) at
          c.in_ok-run.ensures.ran,
    )
