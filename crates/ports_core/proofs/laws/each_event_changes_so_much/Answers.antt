use Rattle.ports_core.proofs.ChangeLemmas.{does_change}
use Rattle.ports_core.proofs.laws.each_event_changes_so_much.Goals as goal

pub returns : goal.returns
returns c = does_change
