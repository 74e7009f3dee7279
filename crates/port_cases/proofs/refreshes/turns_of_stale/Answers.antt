-- A new keeper is right about every world, and so is one whose rows are all stale.
use Rattle.port_cases.proofs.refreshes.turns_of_stale.Goals as goal

pub turns_of_new_cache-requires : goal.turns_of_new_cache-requires
turns_of_new_cache-requires c = c.in_ok-keeper.ensures _

pub turns_of_new_cache-requires-2 : goal.turns_of_new_cache-requires-2
turns_of_new_cache-requires-2 c = c.in_ok-note_path.ensures.other _
