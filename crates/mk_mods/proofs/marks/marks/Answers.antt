use Rattle.std.proofs.Common.{◌≡◌, ◌+◌, ◌++◌, Some, map, drop, sym, ap, ◌∙◌, arith, append_assoc, append-nil}
use Rattle.std.specs.List.{flat_map}
use Rattle.std.proofs.lemmas.Result.{err_from_is_err_and}
use Rattle.mk_ref.specs.Atoms.{atoms_of}
use Rattle.mk_ref.specs.Pieces.{pieces_of}
use Rattle.mk_ref.specs.Places.{piece_in_text}
use Rattle.mk_mods.specs.Marks.{marks_of, marks_if_whole, piece_marks}
use Rattle.mk_mods.specs.Views.{shown_mark}
use Rattle.mk_mods.proofs.ViewSteps.{map-next, map-end}
use Rattle.mk_mods.proofs.MarkSteps.{marks-unread}
use Rattle.mk_mods.proofs.marks.marks.Goals as goal

pub loop-piece-preserved : goal.loop-piece-preserved
loop-piece-preserved c =
    let found = map (piece_in_text c.args.text.now) c.deref-piece-items.result.now in
    let later = flat_map piece_marks (drop (c.loop-piece.piece-index + 1) found) in
    let made = map shown_mark c.loop-piece.marks.items in
    ap (λ l. l ++ later) c.in_ok-push_piece.ensures ∙ append_assoc made _ later
    ∙ ap (λ l. made ++ l)
    (sym (ap (flat_map piece_marks) (map-next (piece_in_text c.args.text.now) c.deref-piece-items.result.now
    c.loop-piece.piece-index _ (omega arith))))
    ∙ c.loop-piece.invariant

pub returns-clause-ok : goal.returns-clause-ok
unfolding marks_of
returns-clause-ok c =
    let text = c.args.text.now in
    let found = map (piece_in_text text) c.deref-piece-items.result.now in
    let made = map shown_mark c.loop-piece.marks.items in
    let whole : found ≡ pieces_of (atoms_of text) = ap (map (piece_in_text text)) c.deref-piece-items.ensures.value
    ∙ c.in_ok-pieces.ensures.pieces in
    ap (λ left. marks_if_whole left (flat_map piece_marks (pieces_of (atoms_of text)))) c.in_ok-pieces.ensures.whole
    ∙ ap (λ pieces. Some (flat_map piece_marks pieces)) (sym whole)
    ∙ ap Some
    (sym c.loop-piece.invariant
    ∙ ap (λ l. made ++ flat_map piece_marks l) (map-end (piece_in_text text) c.deref-piece-items.result.now c.loop-piece.piece-index
    (omega arith)) ∙ append-nil made)

pub returns-in_err-pieces-clause-err : goal.returns-in_err-pieces-clause-err
returns-in_err-pieces-clause-err c =
    let p = err_from_is_err_and c.from_residual.result c.from_residual.ensures.1 in
    rw (p.1, p.2) (marks-unread c.args.text.now c.in_err-pieces.field-0.0 c.in_err-pieces.ensures.fault)
