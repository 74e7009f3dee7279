use Rattle.std.proofs.Common.{◌≡◌, ◌≤◌, ◌+◌, ◌++◌, drop, length, string_bytes, sym, ap, subst, ◌∙◌, arith, length-append, append-nil}
use Rattle.std.specs.List.{flat_map}
use Rattle.std.proofs.lemmas.List.{drop_more}
use Rattle.std.proofs.lemmas.Result.{err_from_is_err_and}
use Rattle.mk_text.specs.declared.limits.TheConstants.{TEXT_LIMIT}
use Rattle.mk_mods.specs.Actions.{symbols_of, AllPlain}
use Rattle.mk_mods.specs.Substituted.{text_of}
use Rattle.mk_mods.proofs.JoinSteps.{too_long-over}
use Rattle.mk_mods.proofs.ChangeSteps.{text_of-bytes, text_of-part, AllPlain-right}
use Rattle.mk_mods.proofs.substitution.text_of.Goals as goal
use Rattle.mk_mods.proofs.substitution.text_of.Goals.{in-Text+in_ok-add_text-in-Text, in-Whole+in_ok-add_text-in-Whole}

pub loop-part-preserved : goal.loop-part-preserved
loop-part-preserved c =
    let old = c.args.old.now in
    let all = c.args.parts.now in
    let part = c.part-item.result in
    let later = flat_map symbols_of (drop (c.loop-part.part-index + 1) all) in
    let next : flat_map symbols_of (drop c.loop-part.part-index all) ≡ symbols_of part ++ later =
    ap (flat_map symbols_of) (drop_more all c.loop-part.part-index part (omega arith))
    ∙ ap (λ x. symbols_of x ++ later) (sym c.part-item.is) in
    let plain = AllPlain-right (symbols_of part) later (subst AllPlain next c.loop-part.invariant.plain) in
    let made = string_bytes c.loop-part.made in
    elim c.match-part.branch [
      | in-Text+in_ok-add_text-in-Text w ↦
          let bytes = string_bytes w.in-Text.text in
          let is : text_of old (symbols_of part) ≡ bytes = ap (λ x. text_of old (symbols_of x)) w.in-Text.is ∙ text_of-bytes old bytes in
          let pushed = ap string_bytes w.made-is ∙ w.in_ok-add_text-in-Text.ensures.ok.1 ∙ ap (λ l. made ++ l) w.as_str.ensures.value in
          record {
            plain = plain;
            small = subst (λ m. length (string_bytes m) ≤ TEXT_LIMIT) (sym w.made-is) w.in_ok-add_text-in-Text.ensures.ok.0;
            goes = ap (λ l. l ++ text_of old later) pushed ∙ sym (text_of-part old made bytes (symbols_of part) later is)
                ∙ ap (λ l. made ++ text_of old l) (sym next)
                ∙ c.loop-part.invariant.goes;
          }
      | in-Whole+in_ok-add_text-in-Whole w ↦
          let is : text_of old (symbols_of part) ≡ old = ap (λ x. text_of old (symbols_of x)) w.in-Whole.is ∙ append-nil old in
          let pushed = ap string_bytes w.made-is ∙ w.in_ok-add_text-in-Whole.ensures.ok.1 in
          record {
            plain = plain;
            small = subst (λ m. length (string_bytes m) ≤ TEXT_LIMIT) (sym w.made-is) w.in_ok-add_text-in-Whole.ensures.ok.0;
            goes = ap (λ l. l ++ text_of old later) pushed ∙ sym (text_of-part old made old (symbols_of part) later is)
                ∙ ap (λ l. made ++ text_of old l) (sym next)
                ∙ c.loop-part.invariant.goes;
          }
    ]

pub returns-in_err-add_text-in-Text-clause-err : goal.returns-in_err-add_text-in-Text-clause-err
returns-in_err-add_text-in-Text-clause-err c =
    let old = c.args.old.now in
    let all = c.args.parts.now in
    let part = c.part-item.result in
    let later = flat_map symbols_of (drop (c.loop-part.part-index + 1) all) in
    let next : flat_map symbols_of (drop c.loop-part.part-index all) ≡ symbols_of part ++ later =
    ap (flat_map symbols_of) (drop_more all c.loop-part.part-index part (omega arith))
    ∙ ap (λ x. symbols_of x ++ later) (sym c.part-item.is) in
    let made = string_bytes c.loop-part.made in
    let bytes = string_bytes c.in-Text.text in
    let is : text_of old (symbols_of part) ≡ bytes = ap (λ x. text_of old (symbols_of x)) c.in-Text.is ∙ text_of-bytes old bytes in
    let whole = sym (text_of-part old made bytes (symbols_of part) later is) ∙ ap (λ l. made ++ text_of old l) (sym next)
    ∙ c.loop-part.invariant.goes in
    let p = err_from_is_err_and c.from_residual.result c.from_residual.ensures.1 in
    rw (p.1, p.2)
    (too_long-over _ _ _ (omega (
      arith,
      ap length whole,
      length-append (made ++ bytes) (text_of old later),
      ap length
          c.as_str.ensures.value,
      length-append made bytes,
      length-append made c.as_str.result.now,
    ))
    c.in_err-add_text-in-Text.ensures.err)
