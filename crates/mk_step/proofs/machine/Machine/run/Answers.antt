use Rattle.std.proofs.Common.{◌≤◌, ◌<◌, ◌+◌, ◌∷◌, refl, sym, ap, subst, arith}
use Rattle.std.proofs.lemmas.Result.{err_from_is_err_and}
use Rattle.mk_base.specs.Meter.{IsLater-on}
use Rattle.mk_step.specs.Points.{Point}
use Rattle.mk_step.specs.Views.{point_of, frame_of, frames_of}
use Rattle.mk_step.specs.Costs.{weight, may_follow}
use Rattle.mk_step.proofs.Running.{Way, way-begins, way-on, way-lessens, way-fits, way-stops, way-stays, way-ends}
use Rattle.mk_step.proofs.machine.Machine.run.Goals as goal

pub loop-alloc-init : goal.loop-alloc-init
loop-alloc-init g c = record {
  way = way-begins (g.F.Names.view c.args.files.now) (point_of c.args.self.now) c.args.units;
  later = record { limit = refl; spent = omega arith; questions = omega arith };
  parses = g.met.P.Parses.stays c.args.parses.now;
}

pub loop-alloc-preserved : goal.loop-alloc-preserved
loop-alloc-preserved g c =
    let view = g.F.Names.view in
    let first = view c.args.files.now in
    let start = point_of c.args.self.now in
    let here = c.loop-alloc.self in
    let new = c.step.new.self in
    let low : here.budget.spent < c.args.self.now.budget.spent + c.args.units =
    omega (arith, c.loop-alloc-test.true, c.spent.ensures.units, c.spent-before.ensures.units) in
    record {
      way = subst (λ makefile. let come : Point = record {
        makefile = makefile;
        frames = frames_of new.frames.items;
        state =
            new.state;
        meter = new.budget;
      } in Way first start c.args.units (view c.step.new.files) come) (sym c.in_ok-step.ensures.makefile)
          (way-on g.F.Names.fails_with first start c.args.units (view c.loop-alloc.files) (view c.step.new.files) (point_of here)
          c.loop-alloc.invariant.way (frame_of c.in-Some.frame) (frames_of c.next_frame.new.frames.items) new.budget
          c.in-Some.ensures.alike c.in_ok-step.ensures.later (new.state, frames_of new.frames.items) c.in_ok-step.ensures.asks
          c.in_ok-step.ensures.gives low);
      later = IsLater-on c.loop-alloc.invariant.later c.in_ok-step.ensures.later;
      parses = g.met.P.Parses.goes_on _ _ _ c.loop-alloc.invariant.parses c.in_ok-step.ensures.parses;
    }

pub loop-alloc-smaller : goal.loop-alloc-smaller
loop-alloc-smaller g c =
    let view = g.F.Names.view in
    let first = view c.args.files.now in
    let start = point_of c.args.self.now in
    let here = c.loop-alloc.self in
    let new = c.step.new.self in
    let there : here.budget.spent ≤ here.budget.limit = omega (arith, c.spent.ensures.units, c.spent.ensures.within) in
    let fits : new.budget.spent ≤ here.budget.limit =
    way-fits g.F.Names.fails_with first start c.args.units (view c.loop-alloc.files) (view c.step.new.files) (point_of here)
    c.loop-alloc.invariant.way (frame_of c.in-Some.frame) (frames_of c.next_frame.new.frames.items) new.budget
    c.in-Some.ensures.alike c.in_ok-step.ensures.later (new.state, frames_of new.frames.items) c.in_ok-step.ensures.asks
    c.in_ok-step.ensures.gives there in
    let lessens : may_follow new.budget (frames_of new.frames.items) < may_follow here.budget
    (frame_of c.in-Some.frame ∷ frames_of c.next_frame.new.frames.items) =
    way-lessens g.F.Names.fails_with first start c.args.units (view c.loop-alloc.files) (view c.step.new.files) (point_of here)
    c.loop-alloc.invariant.way (frame_of c.in-Some.frame) (frames_of c.next_frame.new.frames.items) new.budget
    c.in-Some.ensures.alike c.in_ok-step.ensures.later (new.state, frames_of new.frames.items) c.in_ok-step.ensures.asks
    c.in_ok-step.ensures.gives c.in-Some.ensures.costs fits in
    let lighter : weight (frame_of c.in-Some.frame ∷ frames_of c.next_frame.new.frames.items) ≤ weight (frames_of here.frames.items) =
    c.in-Some.ensures.lighter in
    omega (arith, lessens, lighter)

pub returns-in_err-step-clause-runs : goal.returns-in_err-step-clause-runs
returns-in_err-step-clause-runs g c =
    let view = g.F.Names.view in
    let first = view c.args.files.now in
    let low : c.loop-alloc.self.budget.spent < c.args.self.now.budget.spent + c.args.units =
    omega (arith, c.loop-alloc-test.true, c.spent.ensures.units, c.spent-before.ensures.units) in
    let p = err_from_is_err_and c.from_residual.result c.from_residual.ensures.1 in
    rw (p.1, p.2)
    (way-stops g.F.Names.fails_with first (point_of c.args.self.now) c.args.units (view c.loop-alloc.files) (view c.step.new.files)
    (point_of c.loop-alloc.self) c.loop-alloc.invariant.way (frame_of c.in-Some.frame)
    (frames_of c.next_frame.new.frames.items) c.step.new.self.budget
    c.in-Some.ensures.alike c.in_err-step.ensures.later c.in_err-step.field-0.0 (point_of c.step.new.self) refl c.in_err-step.ensures.gives
    c.in_err-step.ensures.asks low)

pub returns-in_default-clause-runs : goal.returns-in_default-clause-runs
returns-in_default-clause-runs g c =
    let view = g.F.Names.view in
    way-ends g.F.Names.fails_with (view c.args.files.now) (point_of c.args.self.now) c.args.units (view c.loop-alloc.files)
    (view c.loop-alloc.files) (point_of c.loop-alloc.self) c.loop-alloc.invariant.way (frames_of c.next_frame.new.frames.items)
    c.in_default.ensures.alike (ap frames_of (c.in_default.ensures.none refl))

pub returns-clause-runs : goal.returns-clause-runs
returns-clause-runs g c =
    let view = g.F.Names.view in
    let spent : c.args.self.now.budget.spent + c.args.units ≤ c.loop-alloc.self.budget.spent =
    omega (arith, c.loop-alloc-test.false, c.loop-alloc.invariant.later.spent, c.spent.ensures.units, c.spent-before.ensures.units) in
    way-stays g.F.Names.fails_with (view c.args.files.now) (point_of c.args.self.now) c.args.units (view c.loop-alloc.files)
    (view c.loop-alloc.files) (point_of c.loop-alloc.self) c.loop-alloc.invariant.way spent
