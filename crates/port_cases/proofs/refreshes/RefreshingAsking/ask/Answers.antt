-- A new keeper is right about every world.
use Rattle.port_cases.proofs.refreshes.RefreshingAsking.ask.Goals as goal

pub turns_of_new_cache-requires : goal.turns_of_new_cache-requires
turns_of_new_cache-requires c = c.in_ok-keeper.ensures _
