use Rattle.std.proofs.Common.{◌+◌, Some, sym, ap, ◌∙◌, subst}
use Rattle.mk_ref.specs.declared.pieces_of_text.Piece.TheVariants as v
use Rattle.mk_ref.specs.Ends.{EndsInside}
use Rattle.mk_ref.specs.Firsts.{IsPieceAt}
use Rattle.mk_ref.proofs.PieceSteps.{piece_escaped_dollar, piece_letter, piece_marked, piece_broken}
use Rattle.mk_ref.proofs.pieces_of_text.piece_at.Goals as goal

pub returns-in-Doubled : goal.returns-in-Doubled
returns-in-Doubled c = piece_escaped_dollar c.args.text.now c.args.at c.utf8.text c.requires.room
    (c.requires.opens ∙ ap Some c.in-Doubled.is)

pub returns-in-Letter : goal.returns-in-Letter
returns-in-Letter c = piece_letter c.args.text.now c.args.at c.utf8.text c.requires.room (c.requires.opens ∙ ap Some c.in-Letter.is)

pub returns-in-Some : goal.returns-in-Some
returns-in-Some c =
    let text = c.args.text.now in
    let at = c.args.at in
    let mark = c.in-Marked.closing in
    subst (λ r. IsPieceAt text at (v.Reference r)) (sym c.reference_at.ensures)
    (piece_marked text at mark c.in-Some.inside c.utf8.text c.requires.room (c.requires.opens ∙ ap Some c.in-Marked.is)
    (subst (EndsInside text (at + 2) mark) c.in-Some.is
    (subst (λ l. EndsInside l (at + 2) mark c.in_ok-inside-in-Marked.field-0) c.as_bytes.ensures.value c.in_ok-inside-in-Marked.ensures)))

pub returns-in-None : goal.returns-in-None
returns-in-None c =
    let text = c.args.text.now in
    let at = c.args.at in
    let mark = c.in-Marked.closing in
    piece_broken text at mark (c.requires.opens ∙ ap Some c.in-Marked.is)
    (subst (EndsInside text (at + 2) mark) c.in-None.is
    (subst (λ l. EndsInside l (at + 2) mark c.in_ok-inside-in-Marked.field-0) c.as_bytes.ensures.value c.in_ok-inside-in-Marked.ensures))
