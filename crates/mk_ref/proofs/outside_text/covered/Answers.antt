use Rattle.std.proofs.Common.{◌+◌, ◌++◌, map, drop, sym, ap, ◌∙◌, append_assoc}
use Rattle.std.specs.List.{flat_map}
use Rattle.mk_ref.specs.Places.{piece_in_text}
use Rattle.mk_ref.specs.Outside.{covered_piece}
use Rattle.mk_ref.proofs.Covering.{covered-next}
use Rattle.mk_ref.proofs.outside_text.covered.Goals as goal

pub loop-piece-preserved : goal.loop-piece-preserved
loop-piece-preserved c =
    let text = c.args.text.now in
    let made = c.loop-piece.bytes.items in
    let later = flat_map covered_piece (drop (c.loop-piece.piece-index + 1) (map (piece_in_text text) c.args.found.now)) in
    ap (λ l. l ++ later) c.in_ok-push_piece.ensures ∙ append_assoc made _ later
    ∙ ap (λ l. made ++ l) (sym (covered-next text c.args.found.now c.loop-piece.piece-index _ c.loop-piece-test.true))
    ∙ c.loop-piece.invariant
