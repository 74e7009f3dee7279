use Rattle.std.proofs.Common.{◌≡◌, ◌≤◌, length, string_bytes, IfOk, IfErr, sym, subst}
use Rattle.mk_text.specs.declared.limits.TheConstants.{TEXT_LIMIT}
use Rattle.mk_text.specs.TextLimit.{IsTooLong}
use Rattle.mk_mods.specs.Joined.{with_word}
use Rattle.mk_mods.proofs.Replacing.{suffix-some, suffix-none}
use Rattle.mk_mods.proofs.word_maps.add_with_suffix.Goals as goal

pub returns-in-Some-clause-ok : goal.returns-in-Some-clause-ok
returns-in-Some-clause-ok c =
    subst (λ word. IfOk c.add_two.result (λ _. (length (string_bytes c.add_two.new.made) ≤ TEXT_LIMIT)
    × (string_bytes c.add_two.new.made ≡ with_word (string_bytes c.args.made.now) word)))
    (sym (suffix-some c.args.old.now c.args.new.now c.args.word.now c.in-Some.front.now c.in-Some.ensures.cases)) c.add_two.ensures.ok

pub returns-in-Some-clause-err : goal.returns-in-Some-clause-err
returns-in-Some-clause-err c =
    subst (λ word. IfErr c.add_two.result (IsTooLong (with_word (string_bytes c.args.made.now) word)))
    (sym (suffix-some c.args.old.now c.args.new.now c.args.word.now c.in-Some.front.now c.in-Some.ensures.cases)) c.add_two.ensures.err

pub returns-in-None-clause-ok : goal.returns-in-None-clause-ok
returns-in-None-clause-ok c =
    subst (λ word. IfOk c.add_word.result (λ _. (length (string_bytes c.add_word.new.made) ≤ TEXT_LIMIT)
    × (string_bytes c.add_word.new.made ≡ with_word (string_bytes c.args.made.now) word)))
    (sym (suffix-none c.args.old.now c.args.new.now c.args.word.now c.in-None.ensures.cases)) c.add_word.ensures.ok

pub returns-in-None-clause-err : goal.returns-in-None-clause-err
returns-in-None-clause-err c =
    subst (λ word. IfErr c.add_word.result (IsTooLong (with_word (string_bytes c.args.made.now) word)))
    (sym (suffix-none c.args.old.now c.args.new.now c.args.word.now c.in-None.ensures.cases)) c.add_word.ensures.err
