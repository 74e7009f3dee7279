-- The first table.
use Rattle.std.proofs.Common.{refl}
use Rattle.sqlite.proofs.Callers.{memory_is_clean}
use Rattle.sql_facts.specs.States.{state_of}
use Rattle.sql_facts.specs.Tables.{no_schema}
use Rattle.sql_facts.proofs.Creating.{creates}
use Rattle.index_store.specs.PortTable.{create_earlier, earlier_table}
use Rattle.index_store.proofs.Fixed.{create_earlier_text}
use Rattle.index_store.proofs.statements.create_earlier.Goals as goal

pub returns : goal.returns
returns c =
    let new = c.execute.new.self in
    let it =
    creates create_earlier (state_of c.args.conn.now) (state_of new) no_schema earlier_table c.requires.schema c.requires.autocommit
    create_earlier_text refl c.in_ok-execute.field-0 (c.in_ok-execute.ensures.runs (memory_is_clean new)) in
    record { autocommit = it.settled.autocommit; schema = it.schema_is; empty = it.empty }
