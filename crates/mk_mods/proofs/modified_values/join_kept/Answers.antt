use Rattle.std.proofs.Common.{◌≡◌, ℕ, ◌+◌, true, false, List, ◌∷◌, ◌≤◌, length, drop, map, string_bytes, sym, ap, subst, ◌∙◌, arith}
use Rattle.std.specs.Prelude.{filter}
use Rattle.std.proofs.lemmas.Result.{err_from_is_err_and}
use Rattle.std.proofs.lemmas.Bool.{cond-true, cond-false}
use Rattle.mk_text.specs.Words.{words_of, span_text}
use Rattle.mk_glob.specs.Matcher.{fits}
use Rattle.mk_text.specs.declared.limits.TheConstants.{TEXT_LIMIT}
use Rattle.mk_mods.specs.Joined.{joined}
use Rattle.mk_mods.specs.Applied.{keeps_word}
use Rattle.mk_mods.proofs.JoinSteps.{Joining, joining-none, joining-more, joining-same, joining-over, next-word, too_long-over}
use Rattle.mk_mods.proofs.JoinSteps.{keeps_word-by}
use Rattle.mk_mods.proofs.modified_values.join_kept.Goals as goal
use Rattle.mk_mods.proofs.modified_values.join_kept.Goals.{then-glob-matching+in_ok-add_word, else-glob-matching}

pub loop-span-init : goal.loop-span-init
loop-span-init c =
    let keep = filter (λ word. keeps_word c.args.matching (fits c.args.pattern.now word)) in
    subst (λ made. Joining TEXT_LIMIT (joined (keep (words_of c.args.value.now))) made (keep (words_of c.args.value.now)))
    (sym c.new-made.ensures.bytes)
    (joining-none TEXT_LIMIT (keep (words_of c.args.value.now)))

pub loop-span-preserved : goal.loop-span-preserved
loop-span-preserved c =
    let value = c.args.value.now in
    let test = λ (word : List ℕ). keeps_word c.args.matching (fits c.args.pattern.now word) in
    let spans = c.deref-span-items.result.now in
    let texts : map (span_text value) spans ≡ words_of value = ap (map (span_text value)) c.deref-span-items.ensures.value
    ∙ c.in_ok-words.ensures.texts in
    let word = c.of-word.result.now in
    let later = drop (c.loop-span.span-index + 1) (words_of value) in
    let next = next-word value spans (words_of value) c.loop-span.span-index record { start = 0; end = 0 } texts (omega arith)
    ∙ ap (λ w. w ∷ later) (sym c.of-word.ensures) in
    elim c.if-glob-matching.branch [
      | then-glob-matching+in_ok-add_word w ↦
          let keeps : test word ≡ true = keeps_word-by c.glob.result c.args.matching (fits c.args.pattern.now word) c.glob.ensures.value
          ∙ w.if-glob-matching.true in
          joining-more _ _ _ _ word _ (filter test later) c.loop-span.invariant (ap (filter test) next
          ∙ cond-true (test word) (word ∷ filter test later) (filter test later) keeps)
          (subst (λ m. length (string_bytes m) ≤ TEXT_LIMIT) (sym w.made-is) w.in_ok-add_word.ensures.ok.0)
          (ap string_bytes w.made-is ∙ w.in_ok-add_word.ensures.ok.1)
      | else-glob-matching w ↦
          let drops : test word ≡ false = keeps_word-by c.glob.result c.args.matching (fits c.args.pattern.now word) c.glob.ensures.value
          ∙ w.if-glob-matching.false in
          joining-same _ _ _ _ (filter test later)
          (subst (λ m. Joining TEXT_LIMIT (joined (filter test (words_of value))) (string_bytes m)
          (filter test (drop c.loop-span.span-index (words_of value)))) (sym w.made-is) c.loop-span.invariant)
          (ap (filter test) next ∙ cond-false (test word) (word ∷ filter test later) (filter test later) drops)
    ]

pub returns-in_err-add_word-clause-err : goal.returns-in_err-add_word-clause-err
returns-in_err-add_word-clause-err c =
    let value = c.args.value.now in
    let test = λ (word : List ℕ). keeps_word c.args.matching (fits c.args.pattern.now word) in
    let spans = c.deref-span-items.result.now in
    let texts : map (span_text value) spans ≡ words_of value = ap (map (span_text value)) c.deref-span-items.ensures.value
    ∙ c.in_ok-words.ensures.texts in
    let word = c.of-word.result.now in
    let later = drop (c.loop-span.span-index + 1) (words_of value) in
    let next = next-word value spans (words_of value) c.loop-span.span-index record { start = 0; end = 0 } texts (omega arith)
    ∙ ap (λ w. w ∷ later) (sym c.of-word.ensures) in
    let keeps : test word ≡ true = keeps_word-by c.glob.result c.args.matching (fits c.args.pattern.now word) c.glob.ensures.value
    ∙ c.if-glob-matching.true in
    let p = err_from_is_err_and c.from_residual-in_err-add_word.result c.from_residual-in_err-add_word.ensures.1 in
    rw (p.1, p.2)
    (too_long-over _ _ _
    (joining-over _ _ _ word _ (filter test later) c.loop-span.invariant (ap (filter test) next
    ∙ cond-true (test word) (word ∷ filter test later) (filter test later) keeps))
    c.in_err-add_word.ensures.err)
