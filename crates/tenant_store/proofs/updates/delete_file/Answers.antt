-- What the statement makes.
use Rattle.sql_facts.proofs.Ending.{ok_then}
use Rattle.sql_facts.specs.States.{state_of}
use Rattle.tenant_store.proofs.Keeping.{ends}
use Rattle.tenant_store.proofs.Making.{deletes_file}
use Rattle.tenant_store.proofs.updates.delete_file.Goals as goal

pub returns : goal.returns
returns c =
    let old = state_of c.args.conn.now in
    let new = state_of c.run_alone.new.conn in
    let made = ok_then c.run_alone.result (deletes_file c.args.name.now old new c.requires)
    (rw c.params-to_sql.ensures at c.run_alone.ensures.ran) in
    let it = ends c.run_alone.result old new _ c.requires made c.run_alone.ensures.err in
    record { kept = it.0; removed = it.1; err = it.2 }
