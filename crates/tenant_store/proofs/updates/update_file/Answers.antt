-- What the statement makes.
use Rattle.sql_facts.proofs.Ending.{ok_then}
use Rattle.sql_facts.specs.States.{state_of}
use Rattle.tenant_store.proofs.Keeping.{ends}
use Rattle.tenant_store.proofs.Making.{updates_file}
use Rattle.tenant_store.proofs.updates.update_file.Goals as goal

pub returns : goal.returns
returns c =
    let old = state_of c.args.conn.now in
    let new = state_of c.run_alone.new.conn in
    let made = ok_then c.run_alone.result (updates_file c.args.name.now old new c.requires.kept c.args.content.now c.requires.there)
    (rw (c.params-to_sql.ensures, c.params-to_sql-2.ensures) at c.run_alone.ensures.ran) in
    let it = ends c.run_alone.result old new _ c.requires.kept made c.run_alone.ensures.err in
    record { kept = it.0; stored = it.1; err = it.2 }
