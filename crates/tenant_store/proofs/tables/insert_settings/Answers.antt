-- The first settings.
use Rattle.sql_facts.proofs.Ending.{ok_then}
use Rattle.sql_facts.specs.States.{state_of}
use Rattle.tenant_store.proofs.Creating.{inserts_settings}
use Rattle.tenant_store.proofs.tables.insert_settings.Goals as goal

pub returns : goal.returns
returns c = ok_then c.run_alone.result (inserts_settings (state_of c.args.conn.now)
    (state_of c.run_alone.new.conn) c.requires.settled c.requires.bare) c.run_alone.ensures.ran
