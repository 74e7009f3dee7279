use Rattle.std.proofs.Common.{drop, cond, string_bytes}
use Rattle.mk_text.specs.Words.{words_of}
use Rattle.mk_text.specs.declared.limits.TheConstants.{TEXT_LIMIT}
use Rattle.mk_mods.specs.Joined.{joined}
use Rattle.mk_mods.specs.Actions.{replacement_of}
use Rattle.mk_mods.specs.Substituted.{substituted}
use Rattle.mk_mods.proofs.JoinSteps.{Joining}
use Rattle.mk_mods.proofs.substitution.join_replaced.Given as goal

abbrev pub invariant-loop-span : goal.invariant-loop-span
invariant-loop-span l =
    let words = words_of l.value in
    let change = substituted (replacement_of l.substitution) l.old l.new in
    let rest = drop l.span-index words in
    Joining TEXT_LIMIT (joined (change words)) (string_bytes l.made) (cond l.done rest (change rest))
