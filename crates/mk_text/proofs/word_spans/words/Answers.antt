use Rattle.std.proofs.Common.{◌≡◌, ℕ, ◌+◌, ◌<◌, List, length, get_or, sym, ap, subst, subst₂, ◌∙◌, arith}
use Rattle.mk_text.specs.declared.word_spans.Span.{Span}
use Rattle.mk_text.specs.Blanks.{is_blank}
use Rattle.mk_text.proofs.WordSteps.{WordsSoFar, AllWords, so_far-none, so_far-more, so_far-word, so_far-gap, all-word, all-found}
use Rattle.mk_text.proofs.word_spans.words.Goals as goal
use Rattle.mk_text.proofs.word_spans.words.Goals.{then-is_blank, then-start-at+in_ok-push, else-start-at, else-is_blank}
use Rattle.mk_text.proofs.word_spans.words.Goals.{then-start-text+in_ok-push-2, else-start-text}

pub loop-at-init : goal.loop-at-init
loop-at-init c = subst (λ l. WordsSoFar c.args.text.now l 0 0) (sym c.new-spans.ensures.items) (so_far-none c.args.text.now c.utf8.text)

pub loop-at-preserved : goal.loop-at-preserved
loop-at-preserved c =
    let text = c.args.text.now in
    let at = c.loop-at.at in
    let bytes = c.as_bytes-byte-items.ensures.value in
    let near : at < length text = subst (λ l. at < length l) bytes c.loop-at-test.true in
    let test : is_blank (get_or text at 0) ≡ c.is_blank.result = ap (λ l. is_blank (get_or l at 0)) (sym bytes) ∙ sym c.is_blank.ensures in
    let found = c.loop-at.spans.items in
    let start = c.loop-at.start in
    let so_far = c.loop-at.invariant in
    let P : List Span → ℕ → Type 0 = λ l n. WordsSoFar text l n (at + 1) in
    elim c.if-is_blank.branch [
      | then-is_blank w ↦
          let blank = test ∙ w.if-is_blank.true in
          elim w.if-start-at.branch [
            | then-start-at+in_ok-push v ↦
                subst₂ P (sym (ap (λ s. s.items) (w.spans-is ∙ v.spans-is) ∙ v.in_ok-push.ensures.items)) (sym w.start-is)
                (so_far-word text found start at so_far c.utf8.text near blank v.if-start-at.true)
            | else-start-at v ↦
                subst₂ P (sym (ap (λ s. s.items) (w.spans-is ∙ v.spans-is))) (sym w.start-is)
                (so_far-gap text found start at so_far c.utf8.text near blank v.if-start-at.false)
          ]
      | else-is_blank w ↦
          subst₂ P (sym (ap (λ s. s.items) w.spans-is)) (sym w.start-is)
          (so_far-more text found start at so_far (test ∙ w.if-is_blank.false))
    ]

every : (c : goal.Joined-start-text) → AllWords c.args.text.now c.if-start-text.spans.items
every c =
    let text = c.args.text.now in
    let found = c.loop-at.spans.items in
    let start = c.loop-at.start in
    let bytes = c.as_bytes-byte-items.ensures.value in
    let end : c.loop-at.at ≡ length text = omega (arith, ap length bytes) in
    let so_far = subst (λ n. WordsSoFar text found start n) end c.loop-at.invariant in
    elim c.if-start-text.branch [
      | then-start-text+in_ok-push-2 w ↦
          subst (λ l. AllWords text l) (sym (ap (λ s. s.items) w.spans-is ∙ w.in_ok-push-2.ensures.items))
          (all-word text found start so_far w.if-start-text.true)
      | else-start-text w ↦ subst (λ l. AllWords text l) (sym (ap (λ s. s.items) w.spans-is))
          (all-found text found start so_far w.if-start-text.false)
    ]

pub returns-clause-spans : goal.returns-clause-spans
returns-clause-spans c = (every c).spans

pub returns-clause-texts : goal.returns-clause-texts
returns-clause-texts c = (every c).texts

pub returns-clause-within : goal.returns-clause-within
returns-clause-within c = (every c).within
