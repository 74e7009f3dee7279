use Rattle.std.proofs.Common.{◌++◌, ◌+◌, ◌*◌, ◌<◌, length, [], ◌∷◌, Option, Some, None, sym, ap, subst, subst₂, ◌∙◌, arith}
use Rattle.mk_text.specs.declared.lines.Run.{Run}
use Rattle.mk_text.proofs.RunSteps.{LinesSoFar, so_far-none, cuts, number_below, Extends, so_far-open, so_far-line, all-closed, all-open}
use Rattle.mk_text.proofs.lines.logical_lines.Goals as goal
use Rattle.mk_text.proofs.lines.logical_lines.Goals.{in-Some-open+in_ok-run-in-Some-open, in-None-open+in_ok-run-in-None-open}
use Rattle.mk_text.proofs.lines.logical_lines.Goals.{in-Some-open-2+in_ok-finish-2+in_ok-push-2, in_default}

pub loop-piece-init : goal.loop-piece-init
loop-piece-init c =
    let is = c.into_iter-piece-iterator.ensures.into_iter_gives in
    let e = c.split-piece-items.ensures in
    subst₂ (λ l s. LinesSoFar c.args.text.now l None 0 s) (sym c.new-lines.ensures.items) (sym is)
    (so_far-none c.args.text.now c.split-piece-items.result e.text e.has_more e.pattern)

pub overflow_add-number : goal.overflow_add-number
overflow_add-number c =
    let k : cuts c.loop-piece.piece-iterator (Some c.in-Some.piece) c.next.new.self = c.in-Some.ensures.steps in
    let fits : length c.args.text.now * 1 < 9223372036854775808 = c.well_formed.1.0.1 in
    omega (
      arith,
      number_below c.args.text.now c.loop-piece.lines.items c.loop-piece.open c.loop-piece.number c.loop-piece.piece-iterator
          c.next.new.self c.in-Some.piece c.loop-piece.invariant k,
    )

-- the run of an iteration, before it is known whether it goes on
extends-open : (c : goal.Then-goes_on) → Extends c.loop-piece.open c.loop-piece.number c.in-Some.piece.now c.match-open.run
extends-open c =
    let P : Option Run → Run → Type 0 = λ o r. Extends o c.loop-piece.number c.in-Some.piece.now r in
    elim c.match-open.branch [
      | in-Some-open+in_ok-run-in-Some-open w ↦
          subst₂ P (sym w.in-Some-open.is) (sym w.run-is) (w.in_ok-run-in-Some-open.ensures.text, w.in_ok-run-in-Some-open.ensures.line)
      | in-None-open+in_ok-run-in-None-open w ↦
          subst₂ P (sym w.in-None-open.is) (sym w.run-is) (w.in_ok-run-in-None-open.ensures.text, w.in_ok-run-in-None-open.ensures.line)
    ]

extends-last : (c : goal.In_ok-push) → Extends c.loop-piece.open c.loop-piece.number c.in-Some.piece.now c.match-open.run
extends-last c =
    let P : Option Run → Run → Type 0 = λ o r. Extends o c.loop-piece.number c.in-Some.piece.now r in
    elim c.match-open.branch [
      | in-Some-open+in_ok-run-in-Some-open w ↦
          subst₂ P (sym w.in-Some-open.is) (sym w.run-is) (w.in_ok-run-in-Some-open.ensures.text, w.in_ok-run-in-Some-open.ensures.line)
      | in-None-open+in_ok-run-in-None-open w ↦
          subst₂ P (sym w.in-None-open.is) (sym w.run-is) (w.in_ok-run-in-None-open.ensures.text, w.in_ok-run-in-None-open.ensures.line)
    ]

pub loop-piece-preserved-then-goes_on : goal.loop-piece-preserved-then-goes_on
loop-piece-preserved-then-goes_on c =
    let k : cuts c.loop-piece.piece-iterator (Some c.in-Some.piece) c.next.new.self = c.in-Some.ensures.steps in
    so_far-open c.args.text.now c.loop-piece.lines.items c.loop-piece.open c.loop-piece.number c.loop-piece.piece-iterator c.next.new.self
    c.in-Some.piece c.loop-piece.invariant k
    c.match-open.run (extends-open c) (sym c.goes_on.ensures ∙ c.if-goes_on.true)

pub loop-piece-preserved : goal.loop-piece-preserved
loop-piece-preserved c =
    let k : cuts c.loop-piece.piece-iterator (Some c.in-Some.piece) c.next.new.self = c.in-Some.ensures.steps in
    let pushed = c.in_ok-push.ensures.items ∙ ap (λ l. c.loop-piece.lines.items ++ l ∷ []) c.in_ok-finish.ensures in
    subst (λ l. LinesSoFar c.args.text.now l None (c.loop-piece.number + 1) c.next.new.self) (sym pushed)
    (so_far-line c.args.text.now c.loop-piece.lines.items c.loop-piece.open c.loop-piece.number c.loop-piece.piece-iterator c.next.new.self
    c.in-Some.piece c.loop-piece.invariant k
    c.match-open.run (extends-last c) (sym c.goes_on.ensures ∙ c.if-goes_on.false))

pub returns : goal.returns
returns c =
    let text = c.args.text.now in
    let made = c.loop-piece.lines.items in
    let k : cuts c.loop-piece.piece-iterator None c.next.new.self = c.in-None.ensures.steps in
    elim c.match-open-2.branch [
      | in-Some-open-2+in_ok-finish-2+in_ok-push-2 w ↦
          let so_far = subst (λ o. LinesSoFar text made o c.loop-piece.number c.loop-piece.piece-iterator) w.in-Some-open-2.is
          c.loop-piece.invariant in
          ap (λ l. l.items) w.lines-is ∙ w.in_ok-push-2.ensures.items ∙ ap (λ l. made ++ l ∷ []) w.in_ok-finish-2.ensures
          ∙ all-open text made c.loop-piece.number c.loop-piece.piece-iterator c.next.new.self k w.in-Some-open-2.run' so_far
      | in_default w ↦
          let so_far = subst (λ o. LinesSoFar text made o c.loop-piece.number c.loop-piece.piece-iterator) w.in_default.is
          c.loop-piece.invariant in
          ap (λ l. l.items) w.lines-is ∙ all-closed text made c.loop-piece.number c.loop-piece.piece-iterator c.next.new.self k so_far
    ]
