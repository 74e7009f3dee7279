use Rattle.std.proofs.Common.{◌≡◌, [], Some, string_bytes, sym, ap, subst, ◌∙◌, IfOk, IfErr}
use Rattle.std.specs.List.{flat_map}
use Rattle.std.proofs.lemmas.Result.{err_from_is_err_and}
use Rattle.mk_text.specs.Words.{words_of}
use Rattle.mk_mods.specs.Joined.{within_limit, joined, IsUnmade}
use Rattle.mk_mods.specs.Actions.{replacement_of, symbols_of}
use Rattle.mk_mods.specs.Substituted.{text_of, substituted}
use Rattle.mk_mods.proofs.Limits.{within-made, ok-within, err-within, substituted-by, substituted-unmade}
use Rattle.mk_mods.proofs.substitution.join_substituted.Goals as goal

pub returns-clause-ok : goal.returns-clause-ok
returns-clause-ok c =
    let s = replacement_of c.args.substitution.now in
    let words = words_of c.args.value.now in
    let old = string_bytes c.in_ok-old.old in
    let new = string_bytes c.in_ok-new.new in
    let is_old : within_limit (text_of [] s.old) ≡ Some old =
    ap (λ parts. within_limit (text_of [] (flat_map symbols_of parts))) (sym c.deref.ensures.value)
    ∙ within-made _ c.in_ok-old.old c.in_ok-old.ensures.ok in
    let is_new : within_limit (text_of old s.new) ≡ Some new =
    ap (λ parts. within_limit (text_of old (flat_map symbols_of parts))) (sym c.deref-2.ensures.value)
    ∙ ap (λ o. within_limit (text_of o (flat_map symbols_of c.deref-2.result.now))) (sym c.as_str.ensures.value)
    ∙ within-made _ c.in_ok-new.new c.in_ok-new.ensures.ok in
    subst (λ o. IfOk c.join_replaced.result (λ made. o ≡ Some (string_bytes made))) (sym (substituted-by s words old new is_old is_new))
    (ok-within c.join_replaced.result (joined (substituted s old new words))
    (rw (c.as_str-2.ensures.value, c.as_str-3.ensures.value) at c.join_replaced.ensures.ok))

pub returns-clause-err : goal.returns-clause-err
returns-clause-err c =
    let s = replacement_of c.args.substitution.now in
    let words = words_of c.args.value.now in
    let old = string_bytes c.in_ok-old.old in
    let new = string_bytes c.in_ok-new.new in
    let is_old : within_limit (text_of [] s.old) ≡ Some old =
    ap (λ parts. within_limit (text_of [] (flat_map symbols_of parts))) (sym c.deref.ensures.value)
    ∙ within-made _ c.in_ok-old.old c.in_ok-old.ensures.ok in
    let is_new : within_limit (text_of old s.new) ≡ Some new =
    ap (λ parts. within_limit (text_of old (flat_map symbols_of parts))) (sym c.deref-2.ensures.value)
    ∙ ap (λ o. within_limit (text_of o (flat_map symbols_of c.deref-2.result.now))) (sym c.as_str.ensures.value)
    ∙ within-made _ c.in_ok-new.new c.in_ok-new.ensures.ok in
    subst (λ o. IfErr c.join_replaced.result (IsUnmade o)) (sym (substituted-by s words old new is_old is_new))
    (err-within c.join_replaced.result (joined (substituted s old new words))
    (rw (c.as_str-2.ensures.value, c.as_str-3.ensures.value) at c.join_replaced.ensures.err))

pub returns-in_err-new-clause-err : goal.returns-in_err-new-clause-err
returns-in_err-new-clause-err c =
    let s = replacement_of c.args.substitution.now in
    let old = string_bytes c.in_ok-old.old in
    let is_old : within_limit (text_of [] s.old) ≡ Some old =
    ap (λ parts. within_limit (text_of [] (flat_map symbols_of parts))) (sym c.deref.ensures.value)
    ∙ within-made _ c.in_ok-old.old c.in_ok-old.ensures.ok in
    let p = err_from_is_err_and c.from_residual-in_err-new.result c.from_residual-in_err-new.ensures.1 in
    rw (p.1, p.2)
    (substituted-unmade s (words_of c.args.value.now) old _ is_old (rw (c.as_str.ensures.value, c.deref-2.ensures.value) at
    c.in_err-new.ensures.err))
