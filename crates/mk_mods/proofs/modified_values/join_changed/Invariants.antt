use Rattle.std.proofs.Common.{drop, map, string_bytes}
use Rattle.mk_text.specs.Words.{words_of}
use Rattle.mk_text.specs.declared.limits.TheConstants.{TEXT_LIMIT}
use Rattle.mk_mods.specs.Joined.{joined}
use Rattle.mk_mods.specs.Views.{changed_word}
use Rattle.mk_mods.proofs.JoinSteps.{Joining}
use Rattle.mk_mods.proofs.modified_values.join_changed.Given as goal

abbrev pub invariant-loop-span : goal.invariant-loop-span
invariant-loop-span l =
    Joining TEXT_LIMIT (joined (map (changed_word l.change) (words_of l.value))) (string_bytes l.made)
    (map (changed_word l.change) (drop l.span-index (words_of l.value)))
