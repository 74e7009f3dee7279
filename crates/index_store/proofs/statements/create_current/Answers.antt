-- The second table.
use Rattle.sql_facts.specs.States.{state_of}
use Rattle.sqlite.proofs.Callers.{memory_is_clean}
use Rattle.index_store.proofs.Keeping.{creates_current}
use Rattle.index_store.proofs.statements.create_current.Goals as goal

pub returns : goal.returns
returns c =
    creates_current (state_of c.args.conn.now) (state_of c.execute.new.self) c.requires.autocommit c.requires.schema c.requires.empty
    c.in_ok-execute.field-0
    (c.in_ok-execute.ensures.runs (memory_is_clean c.execute.new.self))
