use Rattle.ports_core.proofs.InTimeLemmas.{told_in_time, begun_left}
use Rattle.ports_core.proofs.RunInTime.{run_in_time}
use Rattle.ports_core.proofs.laws.each_request_is_told_in_time.Goals as goal

pub returns-clause-told : goal.returns-clause-told
returns-clause-told c = told_in_time

pub returns-clause-begun : goal.returns-clause-begun
returns-clause-begun c = begun_left

pub returns-clause-run : goal.returns-clause-run
returns-clause-run c = run_in_time
