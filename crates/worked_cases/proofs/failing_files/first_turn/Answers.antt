-- A new keeper is right about every world, and no path is under evaluation.
use Rattle.worked_cases.proofs.failing_files.first_turn.Goals as goal

pub turn_over-requires-clause-kept : goal.turn_over-requires-clause-kept
turn_over-requires-clause-kept g c = c.in_ok-keeper.ensures.kept _

pub turn_over-requires-clause-pending : goal.turn_over-requires-clause-pending
turn_over-requires-clause-pending g c = c.requires _ c.in_ok-keeper.ensures.begun
