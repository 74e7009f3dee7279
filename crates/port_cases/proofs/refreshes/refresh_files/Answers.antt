-- A new keeper is right about every world.
use Rattle.port_cases.proofs.refreshes.refresh_files.Goals as goal

pub refresh_keeper-requires : goal.refresh_keeper-requires
refresh_keeper-requires c = c.in_ok-keeper.ensures _
