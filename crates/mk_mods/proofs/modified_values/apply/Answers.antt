use Rattle.std.proofs.Common.{◌≡◌, Some, string_bytes, sym, subst, IfOk, IfErr}
use Rattle.mk_mods.specs.Joined.{IsUnmade}
use Rattle.mk_mods.specs.Actions.{action_of}
use Rattle.mk_mods.specs.Applied.{applied}
use Rattle.mk_mods.proofs.Limits.{ok-within, err-within}
use Rattle.mk_mods.proofs.modified_values.apply.Goals as goal

pub returns-in-Match-clause-ok : goal.returns-in-Match-clause-ok
unfolding applied
returns-in-Match-clause-ok c =
    subst (λ m. IfOk c.join_kept.result (λ made. applied (action_of m) c.args.value.now ≡ Some (string_bytes made))) (sym c.in-Match.is)
    (ok-within c.join_kept.result _ (rw c.as_str.ensures.value at c.join_kept.ensures.ok))

pub returns-in-Match-clause-err : goal.returns-in-Match-clause-err
unfolding applied
returns-in-Match-clause-err c =
    subst (λ m. IfErr c.join_kept.result (IsUnmade (applied (action_of m) c.args.value.now))) (sym c.in-Match.is)
    (err-within c.join_kept.result _ (rw c.as_str.ensures.value at c.join_kept.ensures.err))

pub returns-in-Exclude-clause-ok : goal.returns-in-Exclude-clause-ok
unfolding applied
returns-in-Exclude-clause-ok c =
    subst (λ m. IfOk c.join_kept-in-Exclude.result (λ made. applied (action_of m) c.args.value.now ≡ Some (string_bytes made)))
    (sym c.in-Exclude.is)
    (ok-within c.join_kept-in-Exclude.result _ (rw c.as_str-in-Exclude.ensures.value at c.join_kept-in-Exclude.ensures.ok))

pub returns-in-Exclude-clause-err : goal.returns-in-Exclude-clause-err
unfolding applied
returns-in-Exclude-clause-err c =
    subst (λ m. IfErr c.join_kept-in-Exclude.result (IsUnmade (applied (action_of m) c.args.value.now))) (sym c.in-Exclude.is)
    (err-within c.join_kept-in-Exclude.result _ (rw c.as_str-in-Exclude.ensures.value at c.join_kept-in-Exclude.ensures.err))

pub returns-in-Substitute-clause-ok : goal.returns-in-Substitute-clause-ok
unfolding applied
returns-in-Substitute-clause-ok c =
    subst (λ m. IfOk c.join_substituted.result (λ made. applied (action_of m) c.args.value.now ≡ Some (string_bytes made)))
    (sym c.in-Substitute.is)
    c.join_substituted.ensures.ok

pub returns-in-Substitute-clause-err : goal.returns-in-Substitute-clause-err
unfolding applied
returns-in-Substitute-clause-err c =
    subst (λ m. IfErr c.join_substituted.result (IsUnmade (applied (action_of m) c.args.value.now))) (sym c.in-Substitute.is)
    c.join_substituted.ensures.err

pub returns-in-Change-clause-ok : goal.returns-in-Change-clause-ok
unfolding applied
returns-in-Change-clause-ok c =
    subst (λ m. IfOk c.join_changed.result (λ made. applied (action_of m) c.args.value.now ≡ Some (string_bytes made))) (sym c.in-Change.is)
    (ok-within c.join_changed.result _ c.join_changed.ensures.ok)

pub returns-in-Change-clause-err : goal.returns-in-Change-clause-err
unfolding applied
returns-in-Change-clause-err c =
    subst (λ m. IfErr c.join_changed.result (IsUnmade (applied (action_of m) c.args.value.now))) (sym c.in-Change.is)
    (err-within c.join_changed.result _ c.join_changed.ensures.err)

pub returns-in-Suffix-clause-ok : goal.returns-in-Suffix-clause-ok
unfolding applied
returns-in-Suffix-clause-ok c =
    subst (λ m. IfOk c.join_changed-in-Suffix.result (λ made. applied (action_of m) c.args.value.now ≡ Some (string_bytes made)))
    (sym c.in-Suffix.is)
    (ok-within c.join_changed-in-Suffix.result _ (rw (c.as_str-in-Suffix.ensures.value, c.as_str-in-Suffix-2.ensures.value) at
    c.join_changed-in-Suffix.ensures.ok))

pub returns-in-Suffix-clause-err : goal.returns-in-Suffix-clause-err
unfolding applied
returns-in-Suffix-clause-err c =
    subst (λ m. IfErr c.join_changed-in-Suffix.result (IsUnmade (applied (action_of m) c.args.value.now))) (sym c.in-Suffix.is)
    (err-within c.join_changed-in-Suffix.result _ (rw (c.as_str-in-Suffix.ensures.value, c.as_str-in-Suffix-2.ensures.value) at
    c.join_changed-in-Suffix.ensures.err))
