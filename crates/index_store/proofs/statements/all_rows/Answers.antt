-- What the query shows.
use Rattle.std.proofs.Common.{refl}
use Rattle.sqlite.proofs.Callers.{memory_is_clean}
use Rattle.sql_facts.specs.States.{state_of}
use Rattle.index_store.proofs.Answering.{rows_end}
use Rattle.index_store.proofs.statements.all_rows.Goals as goal

pub returns : goal.returns
returns c =
    let new = c.query_all.new.self in
    let both = rows_end c.args.part (state_of c.args.conn.now) (state_of new) c.query_all.result c.requires refl
    (rw c.rows_query.ensures at (c.query_all.ensures.ok (memory_is_clean new)))
    (rw c.rows_query.ensures at (c.query_all.ensures.err (memory_is_clean new))) in
    record { rows = both.0; stays = both.1 }
