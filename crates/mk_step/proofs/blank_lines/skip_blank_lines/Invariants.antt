use Rattle.std.proofs.Common.{List, ◌∷◌, drop}
use Rattle.mk_ast.specs.Views.{block_of}
use Rattle.mk_step.specs.Machine.{Site, Frame, Lines}
use Rattle.mk_step.specs.Points.{DoTheSame}
use Rattle.mk_step.proofs.blank_lines.skip_blank_lines.Given as goal

-- up to here all lines are blank
abbrev pub invariant-loop-at : goal.invariant-loop-at
invariant-loop-at l = (site : Site) (others : List Frame) → DoTheSame (Lines site (block_of (drop l.from l.nodes)) ∷ others)
    (Lines site (block_of (drop l.at l.nodes)) ∷ others)
