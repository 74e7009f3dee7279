-- The keeper is right, as it was.
use Rattle.port_cases.proofs.refreshes.turns_of_new_cache.Goals as goal

pub turns_of-requires : goal.turns_of-requires
turns_of-requires g c = c.requires
