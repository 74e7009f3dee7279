use Rattle.std.proofs.Common.{◌≡◌, ◌∙◌, ◌+◌, ◌∷◌, length, get_or, [], refl, sym, ap, arith}
use Rattle.std.proofs.lemmas.Result.{err_from_is_err_and}
use Rattle.mk_ast.specs.Views.{block_of}
use Rattle.mk_loop.specs.Scopes.{iterations_in}
use Rattle.mk_eval.specs.Lines.{inside_iteration}
use Rattle.mk_step.specs.Machine as machine
use Rattle.mk_step.specs.Machine.{place_at}
use Rattle.mk_step.specs.declared.frames.ToDo.TheVariants.{Lines, Iterations}
use Rattle.mk_step.proofs.Stacks.{onto}
use Rattle.std.proofs.lemmas.Option.{slice_get-get_or}
use Rattle.mk_step.specs.Views.{site_of, frames_of}
use Rattle.mk_step.proofs.Stepping.{iterations-stop, iterations-go}
use Rattle.mk_step.proofs.machine.Machine.step_iterations.Goals as goal

pub overflow_add-next : goal.overflow_add-next
overflow_add-next c =
    omega (arith, c.requires, c.count.ensures, c.count.type_inv, ap (λ iterations. length (iterations_in iterations)) c.deref-2.ensures)

pub returns-in_err-begin_iteration-clause-gives : goal.returns-in_err-begin_iteration-clause-gives
returns-in_err-begin_iteration-clause-gives c = λ files log.
    let p = err_from_is_err_and c.from_residual.result c.from_residual.ensures.1 in
    rw (p.1, p.2)
    (iterations-stop c.here-here.result files c.args.self.now.makefile (site_of c.args.site.value)
    (c.here-here.ensures.place files ∙ ap (λ site. place_at files c.args.self.now.makefile (site_of site)) c.deref.ensures)
    (frames_of c.args.self.now.frames.items) c.args.self.now.state c.args.self.now.budget log c.args.left.line
    (block_of c.args.left.body.value.items) (iterations_in c.args.left.iterations.value) c.args.left.next c.requires
    c.in_err-begin_iteration.field-0.0 c.begin_iteration.new.budget c.in_err-begin_iteration.ensures.gives)

pub returns-clause-gives : goal.returns-clause-gives
returns-clause-gives c = λ files log.
    iterations-go c.here-here.result files c.args.self.now.makefile (site_of c.args.site.value)
    (c.here-here.ensures.place files ∙ ap (λ site. place_at files c.args.self.now.makefile (site_of site)) c.deref.ensures)
    (frames_of c.args.self.now.frames.items) c.args.self.now.state c.args.self.now.budget log c.args.left.line
    (block_of c.args.left.body.value.items) (iterations_in c.args.left.iterations.value) c.args.left.next c.requires
    c.begin_iteration.new.budget _ c.in_ok-begin_iteration.ensures.gives
    (let iteration = get_or (iterations_in c.args.left.iterations.value) c.args.left.next [] in
    let outer = onto c.args.self.now.frames.items c.push.new.self.items
    (record { site = c.args.site; to_do = Iterations (record c.args.left { next = c.args.left.next + 1 }) }) _
    c.in_ok-push.ensures.items refl in
    let there : site_of c.in_ok-inside.field-0.value ≡ record (site_of c.args.site.value)
    { loops = inside_iteration (site_of c.args.site.value).loops iteration } =
    c.in_ok-inside.ensures iteration (slice_get-get_or (iterations_in c.args.left.iterations.value) c.args.left.next [] c.requires)
    ∙ ap (λ site. record (site_of site) { loops = inside_iteration (site_of site).loops iteration }) c.deref-3.ensures in
    ap (λ frames. machine.Lines
    (record (site_of c.args.site.value) { loops = inside_iteration (site_of c.args.site.value).loops iteration })
    (block_of c.args.left.body.value.items) ∷ frames) outer
    ∙ onto c.push.new.self.items c.push-2.new.self.items
    (record { site = c.in_ok-inside.field-0; to_do = Lines (record { block = c.in_ok-clone.field-0; next = 0 }) }) _
    c.in_ok-push-2.ensures.items
    (ap (λ site. machine.Lines site (block_of c.args.left.body.value.items)) (sym there)
    ∙ ap (λ body. machine.Lines (site_of c.in_ok-inside.field-0.value) (block_of body.items)) (sym c.in_ok-clone.ensures.cases)))
