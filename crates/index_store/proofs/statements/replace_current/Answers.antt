-- What the statement makes, and what its count says.
use Rattle.mk_text.specs.Profiles.{profile_number}
use Rattle.sql_facts.specs.States.{state_of}
use Rattle.index_store.proofs.Changing.{replaces}
use Rattle.index_store.proofs.statements.replace_current.Goals as goal

pub returns-clause-was_there : goal.returns-clause-was_there
returns-clause-was_there c =
    let ran =
    rw (c.params-to_sql.ensures, c.params-to_sql-2.ensures, c.params-to_sql-3.ensures, c.number.ensures) at c.in_ok-count.ensures.ran in
    (replaces (state_of c.args.tx.now.conn.now) (state_of c.run.new.tx.conn.now) c.requires.formed c.args.path.now c.args.text.now
    (profile_number c.args.profile) (c.in_ok-count.count, ran)).1

pub returns-clause-made : goal.returns-clause-made
returns-clause-made c =
    let ran =
    rw (c.params-to_sql.ensures, c.params-to_sql-2.ensures, c.params-to_sql-3.ensures, c.number.ensures) at c.in_ok-count.ensures.ran in
    (replaces (state_of c.args.tx.now.conn.now) (state_of c.run.new.tx.conn.now) c.requires.formed c.args.path.now c.args.text.now
    (profile_number c.args.profile) (c.in_ok-count.count, ran)).0
