use Rattle.std.proofs.Common.{◌≡◌, ◌∙◌, ◌<◌, ◌≤◌, length, vec_len, sym, ap, arith}
use Rattle.mk_step.specs.Views.{site_of}
use Rattle.mk_step.proofs.Settling.{alike-lines, costs-lines, over-lines}
use Rattle.mk_step.proofs.frames.lines_from.Goals as goal

pub returns-then-next-len-clause-alike : goal.returns-then-next-len-clause-alike
returns-then-next-len-clause-alike c = λ others.
    let same : c.as_slice.result.now ≡ c.args.left.block.value.items = cc in
    alike-lines (site_of c.args.site.value) others c.as_slice.result.now c.args.left.block.value.items c.args.left.next
    c.skip_blank_lines-next.result same (c.skip_blank_lines-next.ensures.alike (site_of c.args.site.value) others)

pub returns-then-next-len-clause-costs : goal.returns-then-next-len-clause-costs
returns-then-next-len-clause-costs c =
    let same : c.as_slice.result.now ≡ c.args.left.block.value.items = cc in
    let len : c.len.result ≡ length c.args.left.block.value.items = c.len.ensures
    ∙ ap (λ v. vec_len v) (c.deref-2.ensures ∙ sym c.deref.ensures) ∙ sym c.as_slice.ensures.len ∙ ap length same in
    let within : c.skip_blank_lines-next.result < length c.args.left.block.value.items = omega (arith, len, c.if-next-len.true) in
    costs-lines (site_of c.args.site.value) c.as_slice.result.now c.args.left.block.value.items c.skip_blank_lines-next.result same
    c.skip_blank_lines-next.ensures.costs within

pub returns-clause-alike : goal.returns-clause-alike
returns-clause-alike c = λ others.
    let same : c.as_slice.result.now ≡ c.args.left.block.value.items = cc in
    let len : c.len.result ≡ length c.args.left.block.value.items = c.len.ensures
    ∙ ap (λ v. vec_len v) (c.deref-2.ensures ∙ sym c.deref.ensures) ∙ sym c.as_slice.ensures.len ∙ ap length same in
    let past : length c.args.left.block.value.items ≤ c.skip_blank_lines-next.result = omega (arith, len, c.if-next-len.false) in
    over-lines (site_of c.args.site.value) others c.as_slice.result.now c.args.left.block.value.items c.args.left.next
    c.skip_blank_lines-next.result same past (c.skip_blank_lines-next.ensures.alike (site_of c.args.site.value) others)
