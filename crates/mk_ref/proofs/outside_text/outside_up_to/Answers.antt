use Rattle.std.proofs.Common.{◌≡◌, ℕ, ◌-◌, ◌<◌, List, ◌++◌, map, take, arith, subst, sym, ap, ◌∙◌, lit<}
use Rattle.std.specs.List.{flat_map, slice_range}
use Rattle.std.proofs.lemmas.Str.{IsCharBoundary-before_ascii}
use Rattle.mk_ref.specs.Atoms.{atoms_of}
use Rattle.mk_ref.specs.Pieces.{pieces_of}
use Rattle.mk_ref.specs.Places.{piece_in_text, IsFaultOf}
use Rattle.mk_ref.specs.Outside.{dollars, covered_piece}
use Rattle.mk_ref.proofs.Alone.{unclosed-dollar, front-ends}
use Rattle.mk_ref.proofs.Covering.{outside-unclosed}
use Rattle.mk_ref.proofs.outside_text.outside_up_to.Goals as goal

from_start : (text front : List ℕ) (at : ℕ) → front ≡ slice_range text 0 at → front ≡ take at text
from_start text front at is = let all : at - 0 ≡ at = omega arith in is ∙ ap (λ n. take n text) all

pub range-front-requires-clause-end_boundary : goal.range-front-requires-clause-end_boundary
range-front-requires-clause-end_boundary c =
    IsCharBoundary-before_ascii c.args.text.now c.args.at c.requires.inside
    (subst (λ b. b < 128) (sym (unclosed-dollar c.args.text.now c.args.at c.requires)) (lit< tt))

pub range_from-requires : goal.range_from-requires
range_from-requires c = λ some.
    IsCharBoundary-before_ascii c.args.text.now c.args.at c.requires.inside
    (subst (λ b. b < 128) (sym (unclosed-dollar c.args.text.now c.args.at c.requires)) (lit< tt))

pub unreachable-requires : goal.unreachable-requires
unreachable-requires c =
    let front = c.range-front.result.now in
    front-ends c.args.text.now front c.args.at c.in-Err-Unclosed.field-0-0 c.requires
    (from_start c.args.text.now front c.args.at c.range-front.ensures.value)
    (subst (IsFaultOf front) c.in-Err-Unclosed.field-0-is c.in-Err-Unclosed.ensures.fault)

pub returns-in_ok-push_dollars-in-Ok : goal.returns-in_ok-push_dollars-in-Ok
returns-in_ok-push_dollars-in-Ok c =
    let text = c.args.text.now in
    let front = c.range-front.result.now in
    let found = map (piece_in_text front) c.as_slice.result.now in
    c.in_ok-push_dollars-in-Ok.ensures ∙ ap (λ l. l ++ dollars c.range_from.result.now) c.in_ok-bytes-in-Ok.ensures
    ∙ ap (λ l. flat_map covered_piece found ++ dollars l) c.range_from.ensures.value
    ∙ outside-unclosed text c.args.at found c.requires
    (ap (map (piece_in_text front)) c.as_slice.ensures.value ∙ c.in-Ok.ensures.pieces
    ∙ ap (λ l. pieces_of (atoms_of l)) (from_start text front c.args.at c.range-front.ensures.value))
