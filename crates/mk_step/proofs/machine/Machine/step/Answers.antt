use Rattle.std.proofs.Common.{◌≡◌, Ok, sym, subst}
use Rattle.std.proofs.lemmas.Result.{err_from_is_err_and}
use Rattle.mk_base.specs.Stops.{StopsAt, stop_of_pure}
use Rattle.mk_files.specs.Questions.{account}
use Rattle.mk_step.specs.Machine.{advance}
use Rattle.mk_step.specs.Views.{site_of, frame_at, frames_of}
use Rattle.mk_step.proofs.Stepping.{stops-purely}
use Rattle.mk_step.proofs.machine.Machine.step.Goals as goal

pub returns-in_err-step_iterations-in-Iterations-clause-gives : goal.returns-in_err-step_iterations-in-Iterations-clause-gives
returns-in_err-step_iterations-in-Iterations-clause-gives g c =
    let view = g.F.Names.view in
    let old = view c.args.files.now in
    let end = account c.step_iterations.new.self.budget old in
    let stop = c.in_err-step_iterations-in-Iterations.field-0.0 in
    let p = err_from_is_err_and c.from_residual.result c.from_residual.ensures.1 in
    rw (p.1, p.2)
    (subst (λ to_do. StopsAt (stop_of_pure stop) end
    (advance old.files c.args.self.now.makefile (frame_at (site_of c.args.frame.site.value) to_do)
    (frames_of c.args.self.now.frames.items) c.args.self.now.state (account c.args.self.now.budget old)))
    (sym c.in-Iterations.is) (stops-purely stop end _ (c.in_err-step_iterations-in-Iterations.ensures.gives old.files old.log)))

pub returns-in_ok-step_iterations-in-Iterations-clause-gives : goal.returns-in_ok-step_iterations-in-Iterations-clause-gives
returns-in_ok-step_iterations-in-Iterations-clause-gives g c =
    let view = g.F.Names.view in
    let old = view c.args.files.now in
    let new = c.step_iterations.new.self in
    subst (λ to_do. advance old.files c.args.self.now.makefile (frame_at (site_of c.args.frame.site.value) to_do)
    (frames_of c.args.self.now.frames.items) c.args.self.now.state (account c.args.self.now.budget old) ≡ Ok
    ((new.state, frames_of new.frames.items), account new.budget old))
    (sym c.in-Iterations.is) (c.in_ok-step_iterations-in-Iterations.ensures.gives old.files old.log)

pub returns-in_err-step_modules-in-Modules-clause-gives : goal.returns-in_err-step_modules-in-Modules-clause-gives
returns-in_err-step_modules-in-Modules-clause-gives g c =
    let view = g.F.Names.view in
    let old = view c.args.files.now in
    let end = account c.step_modules.new.self.budget old in
    let stop = c.in_err-step_modules-in-Modules.field-0.0 in
    let p = err_from_is_err_and c.from_residual-in_err-step_modules-in-Modules.result
    c.from_residual-in_err-step_modules-in-Modules.ensures.1 in
    rw (p.1, p.2)
    (subst (λ to_do. StopsAt (stop_of_pure stop) end
    (advance old.files c.args.self.now.makefile (frame_at (site_of c.args.frame.site.value) to_do)
    (frames_of c.args.self.now.frames.items) c.args.self.now.state (account c.args.self.now.budget old)))
    (sym c.in-Modules.is) (stops-purely stop end _ (c.in_err-step_modules-in-Modules.ensures.gives old.files old.log)))

pub returns-in_ok-step_modules-in-Modules-clause-gives : goal.returns-in_ok-step_modules-in-Modules-clause-gives
returns-in_ok-step_modules-in-Modules-clause-gives g c =
    let view = g.F.Names.view in
    let old = view c.args.files.now in
    let new = c.step_modules.new.self in
    subst (λ to_do. advance old.files c.args.self.now.makefile (frame_at (site_of c.args.frame.site.value) to_do)
    (frames_of c.args.self.now.frames.items) c.args.self.now.state (account c.args.self.now.budget old) ≡ Ok
    ((new.state, frames_of new.frames.items), account new.budget old))
    (sym c.in-Modules.is) (c.in_ok-step_modules-in-Modules.ensures.gives old.files old.log)
