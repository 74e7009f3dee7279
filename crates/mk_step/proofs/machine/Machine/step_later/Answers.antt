use Rattle.std.proofs.Common.{◌∙◌, ◌+◌, if◌then◌else◌, option_map, sym, ap}
use Rattle.std.proofs.lemmas.Result.{err_from_is_err_and}
use Rattle.mk_ast.specs.Views.{block_of}
use Rattle.mk_files.specs.Questions.{account}
use Rattle.mk_step.specs.Machine as machine
use Rattle.mk_step.specs.Machine.{place_at}
use Rattle.mk_step.specs.Views.{site_of, frames_of, later_from}
use Rattle.mk_step.proofs.Stacks.{onto}
use Rattle.mk_step.proofs.Stepping.{later-stops, later-goes}
use Rattle.mk_step.proofs.machine.Machine.step_later.Goals as goal

pub returns-in_err-held-clause-gives : goal.returns-in_err-held-clause-gives
returns-in_err-held-clause-gives g c =
    let view = g.F.Names.view in
    let p = err_from_is_err_and c.from_residual.result c.from_residual.ensures.1 in
    rw (p.1, p.2)
    (later-stops c.here-here.result (view c.args.files.now).files c.args.self.now.makefile (site_of c.args.site.value)
    c.here-here.result.loops.now
    (c.here-here.ensures.place (view c.args.files.now).files
    ∙ ap (λ site. place_at (view c.args.files.now).files c.args.self.now.makefile (site_of site)) c.deref.ensures)
    (c.here-here.ensures.loops ∙ ap (λ site. (site_of site).loops) c.deref.ensures)
    (frames_of c.args.self.now.frames.items) c.args.self.now.state (account c.args.self.now.budget (view c.args.files.now))
    c.as_slice.result.now c.args.left.branches.value.items c.args.left.next c.index-as_slice-left.result
    (option_map (λ block. block.value.items) c.args.left.otherwise) (c.as_slice.ensures.value ∙ ap (λ v. v.items) c.deref-2.ensures)
    c.requires c.index-as_slice-left.is
    c.in_err-held.field-0.0 (account c.holds.new.budget (view c.holds.new.files)) c.in_err-held.ensures.gives)

pub returns-clause-gives : goal.returns-clause-gives
returns-clause-gives g c =
    let view = g.F.Names.view in
    later-goes c.here-here.result (view c.args.files.now).files c.args.self.now.makefile (site_of c.args.site.value)
    c.here-here.result.loops.now
    (c.here-here.ensures.place (view c.args.files.now).files
    ∙ ap (λ site. place_at (view c.args.files.now).files c.args.self.now.makefile (site_of site)) c.deref.ensures)
    (c.here-here.ensures.loops ∙ ap (λ site. (site_of site).loops) c.deref.ensures)
    (frames_of c.args.self.now.frames.items) c.args.self.now.state (account c.args.self.now.budget (view c.args.files.now))
    c.as_slice.result.now c.args.left.branches.value.items c.args.left.next c.index-as_slice-left.result
    (option_map (λ block. block.value.items) c.args.left.otherwise) (c.as_slice.ensures.value ∙ ap (λ v. v.items) c.deref-2.ensures)
    c.requires c.index-as_slice-left.is
    c.in_ok-held.held (account c.holds.new.budget (view c.holds.new.files)) _ c.in_ok-held.ensures.gives
    (onto c.args.self.now.frames.items c.push.new.self.items (record { site = c.args.site; to_do = c.after_condition-to_do.result }) _
    c.in_ok-push.ensures.items
    (ap (λ body. if c.in_ok-held.held then machine.Lines (site_of c.args.site.value) (block_of body.items) else machine.Later
    (site_of c.args.site.value) (later_from c.args.left.branches.value.items (c.args.left.next + 1)
    (option_map (λ block. block.value.items) c.args.left.otherwise)))
    (sym c.in_ok-body.ensures.cases) ∙ sym (c.after_condition-to_do.ensures (site_of c.args.site.value))))
