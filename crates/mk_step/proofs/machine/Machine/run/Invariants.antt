use Rattle.mk_base.specs.Meter.{IsLater}
use Rattle.mk_step.specs.Costs.{may_follow}
use Rattle.mk_step.specs.Views.{point_of, frames_of}
use Rattle.mk_step.proofs.Running.{Way}
use Rattle.mk_step.proofs.machine.Machine.run.Given as goal

-- the run has come here
abbrev pub invariant-loop-alloc : goal.invariant-loop-alloc
invariant-loop-alloc g l =
    let view = g.F.Names.view in
    record {
      way : Way (view l.fn.files) (point_of l.fn.self) l.units (view l.files) (point_of l.self);
      later : IsLater l.fn.self.budget l.self.budget;
      parses : g.P.Parses.becomes l.fn.parses l.parses;
    }

abbrev pub decreases-loop-alloc : goal.decreases-loop-alloc
decreases-loop-alloc g l = may_follow l.self.budget (frames_of l.self.frames.items)
