use Rattle.std.proofs.Common.{◌≡◌, ◌∙◌, ◌-◌, ◌∷◌, ◌&&◌, Ok, Some, None, ap, subst, arith}
use Rattle.std.proofs.lemmas.Result.{err_from_is_err_and}
use Rattle.mk_base.specs.Stops.{StopsPurelyAt}
use Rattle.mk_ast.specs.Parser.{parsed}
use Rattle.mk_files.specs.Questions.{account}
use Rattle.mk_eval.specs.Includes.{Place}
use Rattle.mk_eval.specs.Views.{included_file}
use Rattle.mk_step.specs.Machine.{place_at, read_lines, modules_at}
use Rattle.mk_step.specs.Views.{site_of, frame_of, inner_frames}
use Rattle.mk_step.proofs.Stepping.{line-stops, line-alone, line-reads, line-unread, may-open, found-some}
use Rattle.mk_step.proofs.machine.Machine.do_line.Goals as goal

pub overflow_sub-deref : goal.overflow_sub-deref
overflow_sub-deref g c =
    let files = (g.F.Names.view c.args.files.now).files in
    let site = c.args.site.now.value in
    let placed = c.here-here.ensures.place files ∙ ap (λ site. place_at files c.args.self.now.makefile (site_of site)) c.deref.ensures in
    let some : site.levels ≡ 0 → ⊥ = may-open c.here-here.result.levels site.levels c.args.self.now.budget c.open_line.new.budget
    c.in_ok-open_line.field-0 c.in-Some.included (ap (λ (place : Place). place.levels) placed) c.in-Some.is
    c.in_ok-open_line.ensures.opens in
    let same : c.deref-in-Some.result.now.levels ≡ site.levels = ap (λ site. site.levels) c.deref-in-Some.ensures in
    omega (arith, some, same)

pub returns-in_err-open_line-clause-gives : goal.returns-in_err-open_line-clause-gives
returns-in_err-open_line-clause-gives g c =
    let view = g.F.Names.view in
    let files = (view c.args.files.now).files in
    let p = err_from_is_err_and c.from_residual.result c.from_residual.ensures.1 in
    rw (p.1, p.2)
    (line-stops c.here-here.result files c.args.self.now.makefile (site_of c.args.site.now.value) c.here-here.result.loops.now
    (c.here-here.ensures.place files ∙ ap (λ site. place_at files c.args.self.now.makefile (site_of site)) c.deref.ensures)
    (c.here-here.ensures.loops ∙ ap (λ site. (site_of site).loops) c.deref.ensures)
    c.args.line.now c.args.self.now.state (account c.args.self.now.budget (view c.args.files.now)) c.in_err-open_line.field-0.0
    (account c.open_line.new.budget (view c.open_line.new.files)) c.in_err-open_line.ensures.gives)

pub returns-in_ok-of_line-in-None-clause-gives : goal.returns-in_ok-of_line-in-None-clause-gives
returns-in_ok-of_line-in-None-clause-gives g c =
    let view = g.F.Names.view in
    let files = (view c.args.files.now).files in
    let site = site_of c.args.site.now.value in
    let new = c.open_line.new.state in
    let end = account c.open_line.new.budget (view c.open_line.new.files) in
    line-alone c.here-here.result files c.args.self.now.makefile site c.here-here.result.loops.now
    (c.here-here.ensures.place files ∙ ap (λ site. place_at files c.args.self.now.makefile (site_of site)) c.deref.ensures)
    (c.here-here.ensures.loops ∙ ap (λ site. (site_of site).loops) c.deref.ensures)
    c.args.line.now c.args.self.now.state (account c.args.self.now.budget (view c.args.files.now)) new end
    (inner_frames c.in_ok-of_line-in-None.field-0)
    (found-some _ new c.in_ok-open_line.field-0 end None c.in-None.is c.in_ok-open_line.ensures.gives)
    (c.in_ok-of_line-in-None.ensures
    ∙ ap (λ line. modules_at site line (c.may_ask_modules-may_ask.result && new.shared_asked)) c.line.ensures
    ∙ ap (λ may. modules_at site c.args.line.now.line (may && new.shared_asked)) c.may_ask_modules-may_ask.ensures)

pub returns-in_ok-of_line-in-Some-clause-gives : goal.returns-in_ok-of_line-in-Some-clause-gives
returns-in_ok-of_line-in-Some-clause-gives g c =
    let view = g.F.Names.view in
    let files = (view c.args.files.now).files in
    let site = site_of c.args.site.now.value in
    let new = c.open_line.new.state in
    let end = account c.open_line.new.budget (view c.open_line.new.files) in
    let included = c.in-Some.included in
    let frame = frame_of c.in_ok-lines-in-Some.lines in
    let placed = c.here-here.ensures.place files ∙ ap (λ site. place_at files c.args.self.now.makefile (site_of site)) c.deref.ensures in
    line-reads c.here-here.result files c.args.self.now.makefile site c.here-here.result.loops.now placed
    (c.here-here.ensures.loops ∙ ap (λ site. (site_of site).loops) c.deref.ensures)
    c.args.line.now c.args.self.now.state (account c.args.self.now.budget (view c.args.files.now)) new (included_file included) end frame
    (inner_frames c.in_ok-of_line-in-Some.field-0)
    (found-some _ new c.in_ok-open_line.field-0 end (Some included) c.in-Some.is c.in_ok-open_line.ensures.gives)
    (may-open c.here-here.result.levels site.levels c.args.self.now.budget c.open_line.new.budget c.in_ok-open_line.field-0 included
    (ap (λ (place : Place). place.levels) placed) c.in-Some.is c.in_ok-open_line.ensures.opens)
    (subst (λ levels. read_lines included.name (levels - 1) (parsed included.content) new end ≡ Ok ((new, Some frame), end))
    (ap (λ site. site.levels) c.deref-in-Some.ensures) (c.in_ok-lines-in-Some.ensures.gives new end))
    (c.in_ok-of_line-in-Some.ensures
    ∙ ap (λ line. frame ∷ modules_at site line (c.may_ask_modules-may_ask.result && new.shared_asked)) c.line-in-Some.ensures
    ∙ ap (λ may. frame ∷ modules_at site c.args.line.now.line (may && new.shared_asked)) c.may_ask_modules-may_ask.ensures)

pub returns-in_err-lines-in-Some-clause-gives : goal.returns-in_err-lines-in-Some-clause-gives
returns-in_err-lines-in-Some-clause-gives g c =
    let view = g.F.Names.view in
    let files = (view c.args.files.now).files in
    let site = site_of c.args.site.now.value in
    let new = c.open_line.new.state in
    let end = account c.open_line.new.budget (view c.open_line.new.files) in
    let included = c.in-Some.included in
    let stop = c.in_err-lines-in-Some.field-0.0 in
    let placed = c.here-here.ensures.place files ∙ ap (λ site. place_at files c.args.self.now.makefile (site_of site)) c.deref.ensures in
    let p = err_from_is_err_and c.from_residual-in_err-lines-in-Some.result c.from_residual-in_err-lines-in-Some.ensures.1 in
    rw (p.1, p.2)
    (line-unread c.here-here.result files c.args.self.now.makefile site c.here-here.result.loops.now placed
    (c.here-here.ensures.loops ∙ ap (λ site. (site_of site).loops) c.deref.ensures)
    c.args.line.now c.args.self.now.state (account c.args.self.now.budget (view c.args.files.now)) new (included_file included) end stop
    (found-some _ new c.in_ok-open_line.field-0 end (Some included) c.in-Some.is c.in_ok-open_line.ensures.gives)
    (may-open c.here-here.result.levels site.levels c.args.self.now.budget c.open_line.new.budget c.in_ok-open_line.field-0 included
    (ap (λ (place : Place). place.levels) placed) c.in-Some.is c.in_ok-open_line.ensures.opens)
    (subst (λ levels. StopsPurelyAt stop end (read_lines included.name (levels - 1) (parsed included.content) new end))
    (ap (λ site. site.levels) c.deref-in-Some.ensures) (c.in_err-lines-in-Some.ensures.gives new end)))
