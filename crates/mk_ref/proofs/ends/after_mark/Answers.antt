use Rattle.std.proofs.Common.{◌≡◌, ◌+◌, ℕ, List, [], ◌∷◌, length, Some, refl, sym, ap, ◌∙◌, subst, arith}
use Rattle.mk_ref.specs.declared.opening.Opening.TheVariants.{Doubled, Letter}
use Rattle.mk_ref.proofs.ScanSteps.{MarksOpen, open-close, open-last, open-byte, open-two, open-inner, open-end, two_dollars, dollar_letter}
use Rattle.mk_ref.proofs.ends.after_mark.Goals as goal

-- a list of no elements
empty : (xs : List ℕ) → length xs ≡ 0 → xs ≡ []
empty [] none = refl
empty (x ∷ xs) none = absurd (omega arith)

pub loop-at-preserved-then-bytes-at : goal.loop-at-preserved-then-bytes-at
loop-at-preserved-then-bytes-at c =
    open-close c.args.bytes.now c.args.start c.args.closing c.loop-at.around.items c.loop-at.mark c.loop-at.at
    c.pop.new.self.items c.in-Some.outer
    c.loop-at.invariant c.loop-at-test.true c.if-bytes-at.true c.in-Some.ensures.items

pub returns-in-None : goal.returns-in-None
returns-in-None c =
    open-last c.args.bytes.now c.args.start c.args.closing c.loop-at.around.items c.loop-at.mark c.loop-at.at
    c.loop-at.invariant c.loop-at-test.true c.if-bytes-at.true
    (empty c.loop-at.around.items (omega (arith, c.in-None.ensures.cases, c.loop-at.around.ok.0)))

pub loop-at-preserved-in-Some-Marked : goal.loop-at-preserved-in-Some-Marked
loop-at-preserved-in-Some-Marked c =
    subst (λ l. MarksOpen c.args.bytes.now c.args.start c.args.closing l c.in-Some-Marked.inner (c.loop-at.at + 2))
    (sym c.in_ok-push-in-Some-Marked.ensures.items)
    (open-inner c.args.bytes.now c.args.start c.args.closing c.loop-at.around.items c.loop-at.mark c.loop-at.at c.in-Some-Marked.inner
    c.loop-at.invariant c.in-Some-Marked.ensures.inside c.if-bytes-at.false (sym c.in-Some-Marked.ensures.opening
    ∙ ap Some c.in-Some-Marked.field-0-is))

pub loop-at-preserved-in-Some-Doubled : goal.loop-at-preserved-in-Some-Doubled
loop-at-preserved-in-Some-Doubled c =
    open-two c.args.bytes.now c.args.start c.args.closing c.loop-at.around.items c.loop-at.mark c.loop-at.at Doubled two_dollars
    c.loop-at.invariant c.in-Some-Doubled.ensures.inside c.if-bytes-at.false (sym c.in-Some-Doubled.ensures.opening
    ∙ ap Some c.in-Some-Doubled.field-0-is)

pub loop-at-preserved-in-Some-Letter : goal.loop-at-preserved-in-Some-Letter
loop-at-preserved-in-Some-Letter c =
    open-two c.args.bytes.now c.args.start c.args.closing c.loop-at.around.items c.loop-at.mark c.loop-at.at Letter dollar_letter
    c.loop-at.invariant c.in-Some-Letter.ensures.inside c.if-bytes-at.false (sym c.in-Some-Letter.ensures.opening
    ∙ ap Some c.in-Some-Letter.field-0-is)

pub loop-at-preserved : goal.loop-at-preserved
loop-at-preserved c =
    open-byte c.args.bytes.now c.args.start c.args.closing c.loop-at.around.items c.loop-at.mark c.loop-at.at
    c.loop-at.invariant c.loop-at-test.true c.if-bytes-at.false (sym c.in-None-opening_at.ensures.opening)

pub returns : goal.returns
returns c =
    open-end c.args.bytes.now c.args.start c.args.closing c.loop-at.around.items c.loop-at.mark c.loop-at.at
    c.loop-at.invariant c.loop-at-test.false
