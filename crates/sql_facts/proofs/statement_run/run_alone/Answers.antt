-- What a statement does alone over memory.
use Rattle.std.proofs.Common.{refl}
use Rattle.sqlite.proofs.Callers.{memory_is_clean}
use Rattle.sql_facts.specs.States.{state_of}
use Rattle.sql_facts.proofs.Ending.{on_error}
use Rattle.sql_facts.proofs.Statements.{fails_stays}
use Rattle.sql_facts.proofs.statement_run.run_alone.Goals as goal

pub returns-in_err-execute-clause-err : goal.returns-in_err-execute-clause-err
returns-in_err-execute-clause-err c =
    let new = c.execute.new.self in
    let failed = c.in_err-execute.ensures.runs (memory_is_clean new) in
    on_error c.from_residual.result (fails_stays _ _ (state_of c.args.conn.now) (state_of new) _ c.requires refl failed)

pub returns-clause-ran : goal.returns-clause-ran
returns-clause-ran c = (c.in_ok-execute.field-0, c.in_ok-execute.ensures.runs (memory_is_clean c.execute.new.self))
