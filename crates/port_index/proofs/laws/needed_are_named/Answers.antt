use Rattle.port_index.proofs.TargetLemmas.{needed-named}
use Rattle.port_index.proofs.laws.needed_are_named.Goals as goal

pub returns : goal.returns
returns c = needed-named
