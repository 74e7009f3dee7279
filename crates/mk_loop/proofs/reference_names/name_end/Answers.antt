use Rattle.std.proofs.Common.{◌+◌, Some, sym, ap, ◌∙◌, inl, inr, refl}
use Rattle.std.proofs.lemmas.Bool.{ne_eqb}
use Rattle.mk_ref.specs.Atoms.{Byte, EscapedDollar}
use Rattle.mk_loop.proofs.AtomPlaces.{byte-at-place, pair-at-place}
use Rattle.mk_loop.proofs.NameSteps.{name-more, name-ends, name-letter, name-marked, name-open}
use Rattle.mk_loop.proofs.reference_names.name_end.Goals as goal
use Rattle.mk_loop.proofs.reference_names.name_end.Goals.{then-bytes-at-via-then-bytes-at}
use Rattle.mk_loop.proofs.reference_names.name_end.Goals.{then-bytes-at-via-else-bytes-at+then-bytes-at-eq58}

pub returns-then-bytes-at : goal.returns-then-bytes-at
returns-then-bytes-at c =
    name-ends c.args.bytes.now c.args.start c.args.closing c.loop-at.at c.loop-at.invariant c.requires.ascii c.loop-at-test.true
    (elim c.then-bytes-at.branch [
      | then-bytes-at-via-then-bytes-at w ↦ inl w.if-bytes-at.true
      | then-bytes-at-via-else-bytes-at+then-bytes-at-eq58 w ↦ inr w.if-bytes-at-eq58.true
    ])

pub loop-at-preserved-in-None : goal.loop-at-preserved-in-None
loop-at-preserved-in-None c =
    let text = c.args.bytes.now in
    let at = c.loop-at.at in
    name-more text c.args.start c.args.closing at (at + 1) (Byte _) c.loop-at.invariant c.loop-at-test.true c.if-bytes-at.false
    (byte-at-place text at c.loop-at-test.true (sym c.in-None.ensures.opening)) refl (ne_eqb _ 58 c.if-bytes-at-eq58.false)

pub loop-at-preserved : goal.loop-at-preserved
loop-at-preserved c =
    let text = c.args.bytes.now in
    let at = c.loop-at.at in
    name-more text c.args.start c.args.closing at (at + 2) EscapedDollar c.loop-at.invariant c.loop-at-test.true c.if-bytes-at.false
    (pair-at-place text at c.in-Some-Doubled.ensures.inside (sym c.in-Some-Doubled.ensures.opening ∙ ap Some c.in-Some-Doubled.field-0-is))
    refl refl

pub returns-in-Some-Letter : goal.returns-in-Some-Letter
returns-in-Some-Letter c =
    name-letter c.args.bytes.now c.args.start c.args.closing c.loop-at.at c.loop-at.invariant c.loop-at-test.true c.if-bytes-at.false
    (sym c.in-Some-Letter.ensures.opening ∙ ap Some c.in-Some-Letter.field-0-is)

pub returns-in-Some-Marked : goal.returns-in-Some-Marked
returns-in-Some-Marked c =
    name-marked c.args.bytes.now c.args.start c.args.closing c.loop-at.at _ c.loop-at.invariant c.loop-at-test.true c.if-bytes-at.false
    (sym c.in-Some-Marked.ensures.opening ∙ ap Some c.in-Some-Marked.field-0-is)

pub returns : goal.returns
returns c = name-open c.args.bytes.now c.args.start c.args.closing c.loop-at.at c.loop-at.invariant c.loop-at-test.false
