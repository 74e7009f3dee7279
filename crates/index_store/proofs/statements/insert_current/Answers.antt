-- What the statement makes.
use Rattle.sql_facts.specs.States.{state_of}
use Rattle.mk_text.specs.Profiles.{profile_number}
use Rattle.index_store.proofs.Changing.{inserts_current}
use Rattle.index_store.proofs.statements.insert_current.Goals as goal

pub returns-clause-made : goal.returns-clause-made
returns-clause-made c =
    let old = state_of c.args.tx.now.conn.now in
    let new = state_of c.run.new.tx.conn.now in
    inserts_current old new c.requires.open.formed c.args.path.now c.args.text.now (profile_number c.args.profile) c.requires.free (
      c.in_ok-run.field-0,
      rw (c.params-to_sql.ensures, c.params-to_sql-2.ensures, c.params-to_sql-3.ensures, c.number.ensures) at
          c.in_ok-run.ensures.ran,
    )
