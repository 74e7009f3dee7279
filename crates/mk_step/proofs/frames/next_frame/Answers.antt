use Rattle.std.proofs.Common.{Some, None, refl, arith}
use Rattle.mk_step.specs.Costs.{weight}
use Rattle.mk_step.specs.Views.{frames_of}
use Rattle.mk_step.proofs.Stacks.{pops, weighs}
use Rattle.mk_step.proofs.frames.next_frame.Goals as goal

pub loop-frame-init : goal.loop-frame-init
loop-frame-init c = record { alike = λ files makefile s a. refl; lighter = omega arith }

pub loop-frame-preserved : goal.loop-frame-preserved
loop-frame-preserved c =
    let first = frames_of c.args.frames.now.items in
    let new = c.pop.new.self.items in
    record {
      alike = pops first c.loop-frame.frames.items new c.in-Some.frame None c.in-Some.ensures.items c.loop-frame.invariant.alike
          (c.in_default-settled.ensures.alike (frames_of new));
      lighter = weighs (weight first) c.loop-frame.frames.items new c.in-Some.frame None c.in-Some.ensures.items
          c.loop-frame.invariant.lighter (c.in_default-settled.ensures.lighter (frames_of new));
    }

pub returns-in-Some-settled-clause-alike : goal.returns-in-Some-settled-clause-alike
returns-in-Some-settled-clause-alike c =
    let new = c.pop.new.self.items in
    pops (frames_of c.args.frames.now.items) c.loop-frame.frames.items new c.in-Some.frame (Some c.in-Some-settled.frame)
    c.in-Some.ensures.items c.loop-frame.invariant.alike (c.in-Some-settled.ensures.alike (frames_of new))

pub returns-in-Some-settled-clause-lighter : goal.returns-in-Some-settled-clause-lighter
returns-in-Some-settled-clause-lighter c =
    let new = c.pop.new.self.items in
    weighs (weight (frames_of c.args.frames.now.items)) c.loop-frame.frames.items new c.in-Some.frame (Some c.in-Some-settled.frame)
    c.in-Some.ensures.items c.loop-frame.invariant.lighter (c.in-Some-settled.ensures.lighter (frames_of new))
