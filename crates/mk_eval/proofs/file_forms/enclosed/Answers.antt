-- The first byte is ASCII, so the text may be cut after it.
use Rattle.std.proofs.Common.{◌≡◌, ◌∙◌, ◌≤◌, length, slice_index, ap, sym, subst, arith}
use Rattle.std.proofs.lemmas.Str.{IsCharBoundary-after_ascii}
use Rattle.mk_eval.proofs.file_forms.enclosed.Goals as goal

pub range-requires-clause-start_boundary : goal.range-requires-clause-start_boundary
range-requires-clause-start_boundary c =
    let first : slice_index c.args.text.now 0 ≡ c.args.first = ap (λ t. slice_index t 0) (sym c.as_bytes-bytes.ensures.value)
    ∙ c.if-bytes-first.true in
    let long : 2 ≤ length c.args.text.now = subst (λ t. 2 ≤ length t) c.as_bytes-bytes.ensures.value c.if-bytes-ge2.true in
    λ some. IsCharBoundary-after_ascii c.args.text.now 0 c.utf8.text (omega (arith, long)) (omega (arith, first, c.requires.first))
