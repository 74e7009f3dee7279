use Rattle.ports_core.proofs.RunsServe.{run_serves_plainly}
use Rattle.ports_core.proofs.laws.each_run_serves_plainly.Goals as goal

pub returns : goal.returns
returns c = run_serves_plainly
