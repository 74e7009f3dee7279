use Rattle.ports_core.proofs.RunConverses.{run_converses}
use Rattle.ports_core.proofs.laws.each_connection_converses.Goals as goal

pub returns : goal.returns
returns c = run_converses
