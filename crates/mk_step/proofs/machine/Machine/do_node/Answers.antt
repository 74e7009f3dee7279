use Rattle.std.proofs.Common.{◌∙◌, ◌∷◌, [], sym, ap}
use Rattle.std.proofs.lemmas.Result.{err_from_is_err_and}
use Rattle.mk_files.specs.Questions.{account}
use Rattle.mk_step.specs.Machine.{place_at}
use Rattle.mk_step.specs.Views.{site_of, frame_at, inner_frames}
use Rattle.mk_step.proofs.Stepping.{choice-stops, choice-goes, loop-stops}
use Rattle.mk_step.proofs.machine.Machine.do_node.Goals as goal

pub returns-in_err-held-in-Choice-clause-gives : goal.returns-in_err-held-in-Choice-clause-gives
returns-in_err-held-in-Choice-clause-gives g c =
    let view = g.F.Names.view in
    let files = (view c.args.files.now).files in
    let p = err_from_is_err_and c.from_residual.result c.from_residual.ensures.1 in
    rw (p.1, p.2)
    (choice-stops c.here-here.result files c.args.self.now.makefile (site_of c.args.site.now.value) c.here-here.result.loops.now
    (c.here-here.ensures.place files ∙ ap (λ site. place_at files c.args.self.now.makefile (site_of site)) c.deref.ensures)
    (c.here-here.ensures.loops ∙ ap (λ site. (site_of site).loops) c.deref.ensures)
    c.args.node.now c.in-Choice.head c.in-Choice.body c.in-Choice.branches c.in-Choice.otherwise c.in-Choice.is c.args.self.now.state
    (account c.args.self.now.budget (view c.args.files.now))
    c.in_err-held-in-Choice.field-0.0 (account c.holds.new.budget (view c.holds.new.files)) c.in_err-held-in-Choice.ensures.gives)

pub returns-in_ok-clone-in-Choice-clause-gives : goal.returns-in_ok-clone-in-Choice-clause-gives
returns-in_ok-clone-in-Choice-clause-gives g c =
    let view = g.F.Names.view in
    let files = (view c.args.files.now).files in
    choice-goes c.here-here.result files c.args.self.now.makefile (site_of c.args.site.now.value) c.here-here.result.loops.now
    (c.here-here.ensures.place files ∙ ap (λ site. place_at files c.args.self.now.makefile (site_of site)) c.deref.ensures)
    (c.here-here.ensures.loops ∙ ap (λ site. (site_of site).loops) c.deref.ensures)
    c.args.node.now c.in-Choice.head c.in-Choice.body c.in-Choice.branches c.in-Choice.otherwise c.in-Choice.is c.args.self.now.state
    (account c.args.self.now.budget (view c.args.files.now))
    c.in_ok-held-in-Choice.held (account c.holds.new.budget (view c.holds.new.files)) (inner_frames c.of_block.result)
    c.in_ok-held-in-Choice.ensures.gives
    (ap (λ frame. frame ∷ []) (sym (c.in_ok-to_do-in-Choice.ensures (site_of c.args.site.now.value))
    ∙ ap (λ site. frame_at (site_of site) c.in_ok-to_do-in-Choice.to_do) (sym c.in_ok-clone-in-Choice.ensures.cases))
    ∙ sym c.of_block.ensures)

pub returns-in_err-iterations-in-Loop-clause-gives : goal.returns-in_err-iterations-in-Loop-clause-gives
returns-in_err-iterations-in-Loop-clause-gives g c =
    let view = g.F.Names.view in
    let files = (view c.args.files.now).files in
    let p = err_from_is_err_and c.from_residual-in_err-iterations-in-Loop.result c.from_residual-in_err-iterations-in-Loop.ensures.1 in
    rw (p.1, p.2)
    (loop-stops c.here-here.result files c.args.self.now.makefile (site_of c.args.site.now.value) c.here-here.result.loops.now
    (c.here-here.ensures.place files ∙ ap (λ site. place_at files c.args.self.now.makefile (site_of site)) c.deref.ensures)
    (c.here-here.ensures.loops ∙ ap (λ site. (site_of site).loops) c.deref.ensures)
    c.args.node.now c.in-Loop.head c.in-Loop.body c.in-Loop.is c.args.self.now.state c.args.self.now.budget (view c.args.files.now).log
    c.in_err-iterations-in-Loop.field-0.0 c.iterations_at.new.budget c.in_err-iterations-in-Loop.ensures.gives)
