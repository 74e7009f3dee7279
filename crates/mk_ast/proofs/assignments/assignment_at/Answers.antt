use Rattle.std.proofs.Common.{◌<◌, length, arith, subst, sym, ap, ◌∙◌, lit<}
use Rattle.std.proofs.lemmas.List.{length-take}
use Rattle.std.proofs.lemmas.Str.{IsCharBoundary-after_ascii}
use Rattle.mk_ref.proofs.Covering.{length-outside}
use Rattle.mk_ast.proofs.assignments.assignment_at.Goals as goal
use Rattle.mk_ast.proofs.assignments.assignment_at.Goals.{then-is_sign, else-is_sign}

pub slice_bounds-has_mark-end : goal.slice_bounds-has_mark-end
slice_bounds-has_mark-end c =
    let size = ap length c.requires.same ∙ length-outside c.args.text.now in
    elim c.if-is_sign.branch [
      | then-is_sign w ↦ omega (
        arith,
        size,
        c.requires.within,
        w.start-is,
        c.saturating_sub-before.ensures,
        length-take
            c.if-is_sign.start c.args.plain.now,
      )
      | else-is_sign w ↦ omega (arith, size, c.requires.within, w.start-is, length-take c.if-is_sign.start c.args.plain.now)
    ]

pub range_from-requires : goal.range_from-requires
range_from-requires c = λ some. IsCharBoundary-after_ascii c.args.text.now c.args.at c.utf8.text c.requires.within
    (subst (λ b. b < 128) (sym c.requires.equals) (lit< tt))
