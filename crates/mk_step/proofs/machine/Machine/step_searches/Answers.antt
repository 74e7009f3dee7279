use Rattle.std.proofs.Common.{◌≡◌, ◌∙◌, ◌-◌, ◌∷◌, Ok, Some, ap, sym, subst, arith, refl}
use Rattle.std.proofs.lemmas.Result.{err_from_is_err_and}
use Rattle.mk_base.specs.Stops.{StopsPurelyAt}
use Rattle.mk_ast.specs.Parser.{parsed}
use Rattle.mk_files.specs.Questions.{account}
use Rattle.mk_eval.specs.Includes.{Place}
use Rattle.mk_step.specs.Machine as machine
use Rattle.mk_step.specs.Machine.{place_at, read_lines}
use Rattle.mk_step.specs.Views.{site_of, words_left, frame_of, frames_of}
use Rattle.mk_step.specs.declared.frames.ToDo.TheVariants as to_dos
use Rattle.mk_step.proofs.Stacks.{onto}
use Rattle.mk_step.proofs.Stepping.{may-search, search-stops, search-ends, search-reads, search-unread}
use Rattle.mk_step.proofs.machine.Machine.step_searches.Goals as goal

pub returns-in_err-found-clause-gives : goal.returns-in_err-found-clause-gives
returns-in_err-found-clause-gives g c =
    let view = g.F.Names.view in
    let files = (view c.args.files.now).files in
    let p = err_from_is_err_and c.from_residual.result c.from_residual.ensures.1 in
    rw (p.1, p.2)
    (search-stops c.here-here.result files c.args.self.now.makefile (site_of c.args.site.value)
    (c.here-here.ensures.place files ∙ ap (λ site. place_at files c.args.self.now.makefile (site_of site)) c.deref.ensures)
    (frames_of c.args.self.now.frames.items) c.args.self.now.state (account c.args.self.now.budget (view c.args.files.now))
    c.args.search.line (words_left c.args.search)
    c.in_err-found.field-0.0 (account c.next_module.new.budget (view c.next_module.new.files)) c.in_err-found.ensures.gives)

pub overflow_sub-levels : goal.overflow_sub-levels
overflow_sub-levels g c =
    let files = (g.F.Names.view c.args.files.now).files in
    let site = c.args.site.value in
    let placed = c.here-here.ensures.place files ∙ ap (λ site. place_at files c.args.self.now.makefile (site_of site)) c.deref.ensures in
    let some : site.levels ≡ 0 → ⊥ = may-search c.here-here.result.levels site.levels c.in_ok-found.found c.in-Some.included
    (ap (λ (place : Place). place.levels) placed) c.in-Some.is c.in_ok-found.ensures.opens in
    let same : c.deref-2.result.now.levels ≡ site.levels = ap (λ site. site.levels) c.deref-2.ensures in
    omega (arith, some, same)

pub returns-in_ok-push-in-None-clause-gives : goal.returns-in_ok-push-in-None-clause-gives
returns-in_ok-push-in-None-clause-gives g c =
    let view = g.F.Names.view in
    let files = (view c.args.files.now).files in
    let site = site_of c.args.site.value in
    let search = c.next_module.new.self in
    search-ends c.here-here.result files c.args.self.now.makefile site
    (c.here-here.ensures.place files ∙ ap (λ site. place_at files c.args.self.now.makefile (site_of site)) c.deref.ensures)
    (frames_of c.args.self.now.frames.items) c.args.self.now.state (account c.args.self.now.budget (view c.args.files.now))
    c.args.search.line (words_left c.args.search)
    (words_left search) (account c.next_module.new.budget (view c.next_module.new.files)) c.in_ok-found.found c.in_ok-found.ensures.gives
    (frames_of c.push.new.self.items) c.in-None.is
    (onto c.args.self.now.frames.items c.push.new.self.items (record { site = c.args.site; to_do = to_dos.Searches search })
    (machine.Searches site c.args.search.line (words_left search)) c.in_ok-push-in-None.ensures.items
    (ap (λ line. machine.Searches site line (words_left search)) (sym c.in_ok-found.ensures.line)))

pub returns-in_ok-push-in-Some-2-clause-gives : goal.returns-in_ok-push-in-Some-2-clause-gives
returns-in_ok-push-in-Some-2-clause-gives g c =
    let view = g.F.Names.view in
    let files = (view c.args.files.now).files in
    let site = site_of c.args.site.value in
    let search = c.next_module.new.self in
    let included = c.in-Some.included in
    let s = c.args.self.now.state in
    let end = account c.next_module.new.budget (view c.next_module.new.files) in
    let frame = frame_of c.in_ok-lines-in-Some.lines in
    let placed = c.here-here.ensures.place files ∙ ap (λ site. place_at files c.args.self.now.makefile (site_of site)) c.deref.ensures in
    search-reads c.here-here.result files c.args.self.now.makefile site placed
    (frames_of c.args.self.now.frames.items) s (account c.args.self.now.budget (view c.args.files.now)) c.args.search.line
    (words_left c.args.search)
    (words_left search) end c.in_ok-found.found c.in_ok-found.ensures.gives included c.in-Some.is
    (may-search c.here-here.result.levels site.levels c.in_ok-found.found included (ap (λ (place : Place). place.levels) placed)
    c.in-Some.is c.in_ok-found.ensures.opens)
    frame (frames_of c.push-in-Some-2.new.self.items)
    (subst (λ levels. read_lines included.name (levels - 1) (parsed included.content) s end ≡ Ok ((s, Some frame), end))
    (ap (λ site. site.levels) c.deref-2.ensures) (c.in_ok-lines-in-Some.ensures.gives s end))
    (ap (λ frames. frame ∷ frames)
    (onto c.args.self.now.frames.items c.push-in-Some.new.self.items (record { site = c.args.site; to_do = to_dos.Searches search })
    (machine.Searches site c.args.search.line (words_left search)) c.in_ok-push-in-Some.ensures.items
    (ap (λ line. machine.Searches site line (words_left search)) (sym c.in_ok-found.ensures.line)))
    ∙ onto c.push-in-Some.new.self.items c.push-in-Some-2.new.self.items c.in_ok-lines-in-Some.lines frame
    c.in_ok-push-in-Some-2.ensures.items refl)

pub returns-in_err-lines-in-Some-clause-gives : goal.returns-in_err-lines-in-Some-clause-gives
returns-in_err-lines-in-Some-clause-gives g c =
    let view = g.F.Names.view in
    let files = (view c.args.files.now).files in
    let site = site_of c.args.site.value in
    let included = c.in-Some.included in
    let s = c.args.self.now.state in
    let end = account c.next_module.new.budget (view c.next_module.new.files) in
    let stop = c.in_err-lines-in-Some.field-0.0 in
    let placed = c.here-here.ensures.place files ∙ ap (λ site. place_at files c.args.self.now.makefile (site_of site)) c.deref.ensures in
    let p = err_from_is_err_and c.from_residual-in_err-lines-in-Some.result c.from_residual-in_err-lines-in-Some.ensures.1 in
    rw (p.1, p.2)
    (search-unread c.here-here.result files c.args.self.now.makefile site placed
    (frames_of c.args.self.now.frames.items) s (account c.args.self.now.budget (view c.args.files.now)) c.args.search.line
    (words_left c.args.search)
    (words_left c.next_module.new.self) end c.in_ok-found.found c.in_ok-found.ensures.gives included c.in-Some.is
    (may-search c.here-here.result.levels site.levels c.in_ok-found.found included (ap (λ (place : Place). place.levels) placed)
    c.in-Some.is c.in_ok-found.ensures.opens)
    stop (subst (λ levels. StopsPurelyAt stop end (read_lines included.name (levels - 1) (parsed included.content) s end))
    (ap (λ site. site.levels) c.deref-2.ensures) (c.in_err-lines-in-Some.ensures.gives s end)))
