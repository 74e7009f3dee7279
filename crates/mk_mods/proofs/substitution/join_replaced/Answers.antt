use Rattle.std.proofs.Common.{◌≡◌, ℕ, ◌+◌, Bool, List, ◌∷◌, drop, map, Option, option_map, Some, None, string_bytes, String, sym, ap, subst}
use Rattle.std.proofs.Common.{subst₂, ◌∙◌, arith}
use Rattle.std.specs.declared.alloc.Global.{Global}
use Rattle.std.proofs.lemmas.Result.{err_from_is_err_and}
use Rattle.mk_text.specs.Words.{words_of, span_text}
use Rattle.mk_text.specs.declared.limits.TheConstants.{TEXT_LIMIT}
use Rattle.mk_mods.specs.Joined.{joined}
use Rattle.mk_mods.specs.Actions.{replacement_of}
use Rattle.mk_mods.specs.Substituted.{replaced, substituted}
use Rattle.mk_mods.proofs.JoinSteps.{Joining, joining-none, joining-more, joining-over, joining-covers, next-word, too_long-over}
use Rattle.mk_mods.proofs.JoinSteps.{overlong-whole}
use Rattle.mk_mods.proofs.ChangeSteps.{to_come, come-done, come-none, come-some}
use Rattle.mk_mods.proofs.substitution.join_replaced.Goals as goal
use Rattle.mk_mods.proofs.substitution.join_replaced.Goals.{in-Some+in_ok-add_word-in-Some, in-None+in_ok-add_word-in-None}

abbrev bytes_of : Option (String Global) → Option (List ℕ)
bytes_of made = option_map string_bytes made

pub loop-span-init : goal.loop-span-init
loop-span-init c =
    let words = words_of c.args.value.now in
    let change = substituted (replacement_of c.args.substitution.now) c.args.old.now c.args.new.now in
    subst (λ made. Joining TEXT_LIMIT (joined (change words)) made (change words)) (sym c.new-made.ensures.bytes)
    (joining-none TEXT_LIMIT (change words))

pub loop-span-preserved-then-done : goal.loop-span-preserved-then-done
loop-span-preserved-then-done c =
    let value = c.args.value.now in
    let spans = c.deref-span-items.result.now in
    let texts : map (span_text value) spans ≡ words_of value = ap (map (span_text value)) c.deref-span-items.ensures.value
    ∙ c.in_ok-words.ensures.texts in
    let word = c.of-word.result.now in
    let later = drop (c.loop-span.span-index + 1) (words_of value) in
    let next = next-word value spans (words_of value) c.loop-span.span-index record { start = 0; end = 0 } texts (omega arith)
    ∙ ap (λ w. w ∷ later) (sym c.of-word.ensures) in
    joining-more _ _ _ _ word _ _ c.loop-span.invariant
    (come-done c.loop-span.done (substituted (replacement_of c.args.substitution.now) c.args.old.now c.args.new.now) word _
    later c.if-done.true next)
    c.in_ok-add_word.ensures.ok.0 c.in_ok-add_word.ensures.ok.1

pub returns-in_err-add_word-clause-err : goal.returns-in_err-add_word-clause-err
returns-in_err-add_word-clause-err c =
    let value = c.args.value.now in
    let spans = c.deref-span-items.result.now in
    let texts : map (span_text value) spans ≡ words_of value = ap (map (span_text value)) c.deref-span-items.ensures.value
    ∙ c.in_ok-words.ensures.texts in
    let word = c.of-word.result.now in
    let later = drop (c.loop-span.span-index + 1) (words_of value) in
    let next = next-word value spans (words_of value) c.loop-span.span-index record { start = 0; end = 0 } texts (omega arith)
    ∙ ap (λ w. w ∷ later) (sym c.of-word.ensures) in
    let p = err_from_is_err_and c.from_residual-in_err-add_word.result c.from_residual-in_err-add_word.ensures.1 in
    rw (p.1, p.2)
    (too_long-over _ _ _
    (joining-over _ _ _ word _ _ c.loop-span.invariant
    (come-done c.loop-span.done (substituted (replacement_of c.args.substitution.now) c.args.old.now c.args.new.now) word _
    later c.if-done.true next))
    c.in_err-add_word.ensures.err)

pub returns-in_err-changed-clause-err : goal.returns-in_err-changed-clause-err
returns-in_err-changed-clause-err c =
    let value = c.args.value.now in
    let s = replacement_of c.args.substitution.now in
    let spans = c.deref-span-items.result.now in
    let texts : map (span_text value) spans ≡ words_of value = ap (map (span_text value)) c.deref-span-items.ensures.value
    ∙ c.in_ok-words.ensures.texts in
    let word = c.of-word.result.now in
    let later = drop (c.loop-span.span-index + 1) (words_of value) in
    let next = next-word value spans (words_of value) c.loop-span.span-index record { start = 0; end = 0 } texts (omega arith)
    ∙ ap (λ w. w ∷ later) (sym c.of-word.ensures) in
    let p = err_from_is_err_and c.from_residual-in_err-changed.result c.from_residual-in_err-changed.ensures.1 in
    rw (p.1, p.2)
    (overlong-whole (replaced s c.args.old.now c.args.new.now word) _ _
    (λ text some.
    joining-covers _ _ _ text _ _ c.loop-span.invariant (come-some s c.args.old.now c.args.new.now word text c.loop-span.done _ later
    c.if-done.false next some))
    c.in_err-changed.ensures.err)

pub returns-in_err-add_word-in-Some-clause-err : goal.returns-in_err-add_word-in-Some-clause-err
returns-in_err-add_word-in-Some-clause-err c =
    let value = c.args.value.now in
    let s = replacement_of c.args.substitution.now in
    let spans = c.deref-span-items.result.now in
    let texts : map (span_text value) spans ≡ words_of value = ap (map (span_text value)) c.deref-span-items.ensures.value
    ∙ c.in_ok-words.ensures.texts in
    let word = c.of-word.result.now in
    let later = drop (c.loop-span.span-index + 1) (words_of value) in
    let next = next-word value spans (words_of value) c.loop-span.span-index record { start = 0; end = 0 } texts (omega arith)
    ∙ ap (λ w. w ∷ later) (sym c.of-word.ensures) in
    let some : replaced s c.args.old.now c.args.new.now word ≡ Some c.as_str.result.now = c.in_ok-changed.ensures.ok
    ∙ ap bytes_of c.in-Some.is ∙ ap Some (sym c.as_str.ensures.value) in
    let p = err_from_is_err_and c.from_residual-in_err-add_word-in-Some.result c.from_residual-in_err-add_word-in-Some.ensures.1 in
    rw (p.1, p.2)
    (too_long-over _ _ _
    (joining-over _ _ _ c.as_str.result.now _ _ c.loop-span.invariant (come-some s c.args.old.now c.args.new.now word c.as_str.result.now
    c.loop-span.done _ later c.if-done.false next some))
    c.in_err-add_word-in-Some.ensures.err)

pub returns-in_err-add_word-in-None-clause-err : goal.returns-in_err-add_word-in-None-clause-err
returns-in_err-add_word-in-None-clause-err c =
    let value = c.args.value.now in
    let s = replacement_of c.args.substitution.now in
    let spans = c.deref-span-items.result.now in
    let texts : map (span_text value) spans ≡ words_of value = ap (map (span_text value)) c.deref-span-items.ensures.value
    ∙ c.in_ok-words.ensures.texts in
    let word = c.of-word.result.now in
    let later = drop (c.loop-span.span-index + 1) (words_of value) in
    let next = next-word value spans (words_of value) c.loop-span.span-index record { start = 0; end = 0 } texts (omega arith)
    ∙ ap (λ w. w ∷ later) (sym c.of-word.ensures) in
    let none : replaced s c.args.old.now c.args.new.now word ≡ None = c.in_ok-changed.ensures.ok ∙ ap bytes_of c.in-None.is in
    let p = err_from_is_err_and c.from_residual-in_err-add_word-in-None.result c.from_residual-in_err-add_word-in-None.ensures.1 in
    rw (p.1, p.2)
    (too_long-over _ _ _
    (joining-over _ _ _ word _ _ c.loop-span.invariant (come-none s c.args.old.now c.args.new.now word c.loop-span.done _ later
    c.if-done.false next none))
    c.in_err-add_word-in-None.ensures.err)

pub loop-span-preserved : goal.loop-span-preserved
loop-span-preserved c =
    let value = c.args.value.now in
    let s = replacement_of c.args.substitution.now in
    let spans = c.deref-span-items.result.now in
    let texts : map (span_text value) spans ≡ words_of value = ap (map (span_text value)) c.deref-span-items.ensures.value
    ∙ c.in_ok-words.ensures.texts in
    let word = c.of-word.result.now in
    let later = drop (c.loop-span.span-index + 1) (words_of value) in
    let change = substituted s c.args.old.now c.args.new.now in
    let next = next-word value spans (words_of value) c.loop-span.span-index record { start = 0; end = 0 } texts (omega arith)
    ∙ ap (λ w. w ∷ later) (sym c.of-word.ensures) in
    let P : String Global → Bool → Type 0 = λ made done. Joining TEXT_LIMIT (joined (change (words_of value))) (string_bytes made)
    (to_come done change later) in
    elim c.match-branch-4.branch [
      | in-Some+in_ok-add_word-in-Some w ↦
          let some : replaced s c.args.old.now c.args.new.now word ≡ Some w.as_str.result.now = c.in_ok-changed.ensures.ok
          ∙ ap bytes_of w.in-Some.is ∙ ap Some (sym w.as_str.ensures.value) in
          subst₂ P (sym w.made-is) (sym w.done-is)
          (joining-more _ _ _ _ w.as_str.result.now _ _ c.loop-span.invariant
          (come-some s c.args.old.now c.args.new.now word w.as_str.result.now c.loop-span.done _ later c.if-done.false next some)
          w.in_ok-add_word-in-Some.ensures.ok.0 w.in_ok-add_word-in-Some.ensures.ok.1)
      | in-None+in_ok-add_word-in-None w ↦
          let none : replaced s c.args.old.now c.args.new.now word ≡ None = c.in_ok-changed.ensures.ok ∙ ap bytes_of w.in-None.is in
          subst₂ P (sym w.made-is) (sym w.done-is)
          (joining-more _ _ _ _ word _ _ c.loop-span.invariant (come-none s c.args.old.now c.args.new.now word c.loop-span.done _ later
          c.if-done.false next none)
          w.in_ok-add_word-in-None.ensures.ok.0 w.in_ok-add_word-in-None.ensures.ok.1)
    ]
