-- What a statement does in a transaction over memory.
use Rattle.std.proofs.Common.{refl}
use Rattle.sqlite.proofs.Callers.{memory_is_clean}
use Rattle.sql_facts.specs.States.{state_of}
use Rattle.sql_facts.proofs.Ending.{inside_commit}
use Rattle.sql_facts.proofs.statement_run.run.Goals as goal

pub returns : goal.returns
returns c =
    let new = c.execute.new.self.conn.now in
    let ran = c.execute.ensures.runs (memory_is_clean new) c.requires in
    record {
      kept = record {
        same_reference = c.execute.ensures.same_reference;
        committed = inside_commit _ _ (state_of c.args.tx.now.conn.now) (state_of new) c.execute.result refl ran;
      };
      ran = ran;
    }
