use Rattle.std.proofs.Common.{◌≤◌, vec_len}
use Rattle.mk_step.specs.Costs.{weight}
use Rattle.mk_step.specs.Points.{DoTheSame}
use Rattle.mk_step.specs.Views.{frames_of}
use Rattle.mk_step.proofs.frames.next_frame.Given as goal

abbrev pub invariant-loop-frame : goal.invariant-loop-frame
invariant-loop-frame l = record {
  alike : DoTheSame (frames_of l.fn.frames.items) (frames_of l.frames.items);
  lighter : weight (frames_of l.frames.items) ≤ weight (frames_of l.fn.frames.items);
}

abbrev pub decreases-loop-frame : goal.decreases-loop-frame
decreases-loop-frame l = vec_len l.frames
