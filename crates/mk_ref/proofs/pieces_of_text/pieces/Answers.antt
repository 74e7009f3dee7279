use Rattle.std.proofs.Common.{◌<◌, ◌≤◌, length, drop, [], ◌∷◌, ◌++◌, sym, ap, ◌∙◌, subst}
use Rattle.mk_ref.specs.Atoms.{opening_of}
use Rattle.mk_ref.specs.Firsts.{BeginsAt, literal_at}
use Rattle.mk_ref.proofs.PiecesSoFar.{CutSoFar, so_far-none, so_far-byte, so_far-piece, AllCut, all-cut, unclosed}
use Rattle.mk_ref.proofs.pieces_of_text.pieces.Goals as goal

pub loop-at-init : goal.loop-at-init
loop-at-init c = subst (λ l. CutSoFar c.args.text.now l 0 0) (sym c.new-found.ensures.items) (so_far-none c.args.text.now c.utf8.text)

pub loop-at-preserved-in_default : goal.loop-at-preserved-in_default
loop-at-preserved-in_default c =
    let at = c.loop-at.at in
    let bytes = c.as_bytes-bytes.ensures.value in
    so_far-byte c.args.text.now c.loop-at.found.items c.loop-at.literal at c.loop-at.invariant
    (subst (λ l. at < length l) bytes c.loop-at-test.true) (ap (λ l. opening_of (drop at l)) (sym bytes) ∙ sym c.in_default.ensures.opening)

pub returns-in_default-2-clause-fault : goal.returns-in_default-2-clause-fault
returns-in_default-2-clause-fault c =
    let at = c.loop-at.at in
    unclosed c.args.text.now c.loop-at.found.items c.loop-at.literal at c.loop-at.invariant
    (subst (λ l. at < length l) c.as_bytes-bytes.ensures.value c.loop-at-test.true)
    (subst (BeginsAt c.args.text.now at) c.in_default-2.is c.in_ok-piece.ensures)

pub loop-at-preserved : goal.loop-at-preserved
loop-at-preserved c =
    let text = c.args.text.now in
    let at = c.loop-at.at in
    let piece = c.in-Some-2.piece in
    subst (λ l. CutSoFar text l c.end-at.result c.end-at.result)
    (sym (c.in_ok-push.ensures ∙ ap (λ l. l ++ piece ∷ []) c.in_ok-push_literal.ensures))
    (subst (λ n. CutSoFar text ((c.loop-at.found.items ++ literal_at c.loop-at.literal at) ++ piece ∷ []) n n) (sym c.end-at.ensures)
    (so_far-piece text c.loop-at.found.items c.loop-at.literal at piece c.loop-at.invariant
    (subst (BeginsAt text at) c.in-Some-2.is c.in_ok-piece.ensures)))

every : (c : goal.In_ok-push_literal-2) → AllCut c.args.text.now c.push_literal-2.new.found.items
every c =
    let text = c.args.text.now in
    let at = c.loop-at.at in
    subst (AllCut text) (sym c.in_ok-push_literal-2.ensures)
    (all-cut text c.loop-at.found.items c.loop-at.literal at c.loop-at.invariant
    (subst (λ l. length l ≤ at) c.as_bytes-bytes.ensures.value c.loop-at-test.false))

pub returns-clause-pieces : goal.returns-clause-pieces
returns-clause-pieces c = (every c).pieces

pub returns-clause-whole : goal.returns-clause-whole
returns-clause-whole c = (every c).whole

pub returns-clause-order : goal.returns-clause-order
returns-clause-order c = (every c).order

pub returns-clause-places : goal.returns-clause-places
returns-clause-places c = (every c).places
