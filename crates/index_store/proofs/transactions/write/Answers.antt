-- What a change makes of the rows of both tables, or nothing has changed.
use Rattle.sql_facts.specs.States.{state_of}
use Rattle.sql_facts.proofs.Ending.{ok_then, err_then}
use Rattle.index_store.proofs.Keeping.{still_entries, change_kept, change_made}
use Rattle.index_store.proofs.transactions.write.Goals as goal

pub returns : goal.returns
returns c =
    let old = state_of c.args.conn.now in
    let new = state_of c.commit.new.conn in
    let result = c.commit.result in
    record {
      kept = change_kept c.args.has_earlier c.args.change old new c.requires.kept c.requires.free result c.commit.ensures.ok
          c.commit.ensures.err;
      ok = ok_then result (change_made c.args.has_earlier c.args.change old new c.requires.kept c.requires.free) c.commit.ensures.ok;
      err = err_then result (still_entries old new) c.commit.ensures.err;
    }
