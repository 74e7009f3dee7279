-- What is under way for a question that had no turn yet.
use Rattle.worked_cases.proofs.failing_files.turn_to.Goals as goal

pub first_turn-requires : goal.first_turn-requires
first_turn-requires g c = λ refresh begun. (c.of_port.ensures _ refresh).pending

pub first_turn-requires-in-OfIndex : goal.first_turn-requires-in-OfIndex
first_turn-requires-in-OfIndex g c = λ refresh begun. (c.of_index.ensures _ refresh begun).pending
