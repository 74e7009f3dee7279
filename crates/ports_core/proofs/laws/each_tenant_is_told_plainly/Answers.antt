use Rattle.ports_core.proofs.RunsServe.{run_plainly}
use Rattle.ports_core.proofs.laws.each_tenant_is_told_plainly.Goals as goal

pub returns : goal.returns
returns c = run_plainly
