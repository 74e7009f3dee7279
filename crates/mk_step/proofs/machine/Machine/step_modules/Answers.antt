use Rattle.std.proofs.Common.{◌∙◌, ap}
use Rattle.std.proofs.lemmas.Result.{err_from_is_err_and}
use Rattle.mk_step.specs.Machine.{place_at}
use Rattle.mk_step.specs.Views.{site_of, frames_of}
use Rattle.mk_step.proofs.Stepping.{modules-stop}
use Rattle.mk_step.proofs.machine.Machine.step_modules.Goals as goal

pub returns-in_err-words-clause-gives : goal.returns-in_err-words-clause-gives
returns-in_err-words-clause-gives c = λ files log.
    let p = err_from_is_err_and c.from_residual.result c.from_residual.ensures.1 in
    rw (p.1, p.2)
    (modules-stop c.here-here.result files c.args.self.now.makefile (site_of c.args.site.value)
    (c.here-here.ensures.place files ∙ ap (λ site. place_at files c.args.self.now.makefile (site_of site)) c.deref.ensures)
    (frames_of c.args.self.now.frames.items) c.args.self.now.state c.args.self.now.budget log c.args.line
    c.in_err-words.field-0.0 c.module_words.new.budget c.in_err-words.ensures.gives)
