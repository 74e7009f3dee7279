-- The second table.
use Rattle.std.proofs.Common.{◌∙◌, refl}
use Rattle.sqlite.proofs.Callers.{memory_is_clean}
use Rattle.sql_facts.specs.States.{state_of}
use Rattle.sql_facts.proofs.Creating.{creates}
use Rattle.tenant_store.specs.Tables.{create_settings, file_schema, settings_table}
use Rattle.tenant_store.proofs.Fixed.{create_settings_text}
use Rattle.tenant_store.proofs.tables.create_settings.Goals as goal

pub returns : goal.returns
returns c =
    let new = c.execute.new.self in
    let it =
    creates create_settings (state_of c.args.conn.now) (state_of new) file_schema settings_table c.requires.schema c.requires.autocommit
    create_settings_text refl c.in_ok-execute.field-0 (c.in_ok-execute.ensures.runs (memory_is_clean new)) in
    record { settled = it.settled; bare = record { schema = it.schema_is; files = it.others.0 ∙ c.requires.empty; settings = it.empty } }
