-- The first mark after which the text passes the test is where it is cut.
use Rattle.std.proofs.Common.{◌≡◌, ◌==◌, ◌+◌, true, get_or, drop, sym, ◌∙◌}
use Rattle.std.proofs.lemmas.Bool.{and_from, and_left, and_right, eq-eqb, ne_eqb}
use Rattle.std.proofs.lemmas.List.{take_rest}
use Rattle.text_parts.specs.Cuts.{cut_where}
use Rattle.text_parts.proofs.CutSteps.{shifted-none, from_here-on, from_here-found, from_here-end}
use Rattle.text_parts.proofs.cuts.mark_where.Goals as goal
use Rattle.text_parts.proofs.cuts.mark_where.Goals.{else-text-at-via-then-text-at+else-passes, else-text-at-via-else-text-at}

pub loop-at-init : goal.loop-at-init
loop-at-init g c = λ test answers. sym (shifted-none (cut_where c.args.mark test c.args.text.now))

pub returns-then-passes-clause-first : goal.returns-then-passes-clause-first
returns-then-passes-clause-first g c = λ test answers.
    let text = c.args.text.now in
    let at = c.loop-at.at in
    let passed : test (drop (at + 1) text) ≡ true =
    sym (answers (drop (at + 1) text) c.passes.result
    (record { shown = _; shows = take_rest text (at + 1); says = record { met = c.passes.ensures } })) ∙ c.if-passes.true in
    c.loop-at.invariant test answers
    ∙ from_here-found c.args.mark test text at c.loop-at-test.true
    (and_from (get_or text at 0 == c.args.mark) (test (drop (at + 1) text)) (eq-eqb (get_or text at 0) c.args.mark c.if-text-at.true)
    passed)

pub loop-at-preserved : goal.loop-at-preserved
loop-at-preserved g c = λ test answers.
    let text = c.args.text.now in
    let at = c.loop-at.at in
    c.loop-at.invariant test answers
    ∙ from_here-on c.args.mark test text at c.loop-at-test.true
    (elim c.else-text-at.branch [
      | else-text-at-via-then-text-at+else-passes w ↦
          and_right (get_or text at 0 == c.args.mark) (test (drop (at + 1) text))
          (sym (answers (drop (at + 1) text) w.passes.result
          (record { shown = _; shows = take_rest text (at + 1); says = record { met = w.passes.ensures } })) ∙ w.if-passes.false)
      | else-text-at-via-else-text-at w ↦
          and_left (get_or text at 0 == c.args.mark) (test (drop (at + 1) text)) (ne_eqb (get_or text at 0) c.args.mark w.if-text-at.false)
    ])

pub returns-clause-first : goal.returns-clause-first
returns-clause-first g c = λ test answers. c.loop-at.invariant test answers ∙ from_here-end c.args.mark test c.args.text.now
    c.loop-at.at c.loop-at-test.false
