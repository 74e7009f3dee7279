use Rattle.std.proofs.Common.{◌≡◌, ◌∙◌, ◌<◌, ◌≤◌, length, ap, arith}
use Rattle.mk_ast.specs.Views.{block_of}
use Rattle.mk_loop.specs.Scopes.{iterations_in}
use Rattle.mk_step.specs.Views.{site_of}
use Rattle.mk_step.proofs.Settling.{costs-iterations, over-iterations}
use Rattle.mk_step.proofs.frames.iterations_from.Goals as goal

pub returns-then-left-count-clause-costs : goal.returns-then-left-count-clause-costs
returns-then-left-count-clause-costs c =
    let len : c.count.result ≡ length (iterations_in c.args.left.iterations.value) = c.count.ensures
    ∙ ap (λ iterations. length (iterations_in iterations)) c.deref.ensures in
    let within : c.args.left.next < length (iterations_in c.args.left.iterations.value) = omega (arith, len, c.if-left-count.true) in
    costs-iterations (site_of c.args.site.value) c.args.left.line (block_of c.args.left.body.value.items)
    (iterations_in c.args.left.iterations.value) c.args.left.next within

pub returns-clause-alike : goal.returns-clause-alike
returns-clause-alike c = λ others.
    let len : c.count.result ≡ length (iterations_in c.args.left.iterations.value) = c.count.ensures
    ∙ ap (λ iterations. length (iterations_in iterations)) c.deref.ensures in
    let past : length (iterations_in c.args.left.iterations.value) ≤ c.args.left.next = omega (arith, len, c.if-left-count.false) in
    over-iterations (site_of c.args.site.value) c.args.left.line (block_of c.args.left.body.value.items)
    (iterations_in c.args.left.iterations.value) c.args.left.next others past
