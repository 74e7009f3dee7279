-- A keeper that keeps nothing yet is right about every world, and no path is under evaluation once it is stopped.
use Rattle.worked_cases.proofs.failing_files.new_keeper.Goals as goal

pub returns-clause-kept : goal.returns-clause-kept
returns-clause-kept c = λ world. c.stop.ensures.kept world (c.new-keeper.ensures world)
