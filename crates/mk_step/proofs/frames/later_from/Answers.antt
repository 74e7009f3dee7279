use Rattle.std.proofs.Common.{◌≡◌, ◌∙◌, ◌<◌, length, option_map, ap, arith}
use Rattle.mk_ast.specs.Views.{block_of, last_branch}
use Rattle.mk_step.specs.Views.{site_of}
use Rattle.mk_step.proofs.Settling.{costs-later}
use Rattle.mk_step.proofs.frames.later_from.Goals as goal

pub returns-then-next-as_slice-clause-costs : goal.returns-then-next-as_slice-clause-costs
returns-then-next-as_slice-clause-costs c =
    let left = c.args.left in
    let items = left.branches.value.items in
    let same : length c.as_slice.result.now ≡ length items = ap length (c.as_slice.ensures.value ∙ ap (λ v. v.items) c.deref.ensures) in
    let within : left.next < length items = omega (arith, same, c.if-next-as_slice.true) in
    costs-later (site_of c.args.site.value) items
    (last_branch (option_map block_of (option_map (λ block. block.value.items) left.otherwise))) left.next within
