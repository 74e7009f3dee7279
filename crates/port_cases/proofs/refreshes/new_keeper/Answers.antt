-- A new keeper is right about every world.
use Rattle.port_cases.proofs.refreshes.new_keeper.Goals as goal

pub returns : goal.returns
returns c = c.new.ensures
