use Rattle.std.proofs.Common.{drop, string_bytes}
use Rattle.std.specs.Prelude.{filter}
use Rattle.mk_text.specs.Words.{words_of}
use Rattle.mk_glob.specs.Matcher.{fits}
use Rattle.mk_text.specs.declared.limits.TheConstants.{TEXT_LIMIT}
use Rattle.mk_mods.specs.Joined.{joined}
use Rattle.mk_mods.specs.Applied.{keeps_word}
use Rattle.mk_mods.proofs.JoinSteps.{Joining}
use Rattle.mk_mods.proofs.modified_values.join_kept.Given as goal

abbrev pub invariant-loop-span : goal.invariant-loop-span
invariant-loop-span l =
    let keep = filter (λ word. keeps_word l.matching (fits l.pattern word)) in
    Joining TEXT_LIMIT (joined (keep (words_of l.value))) (string_bytes l.made) (keep (drop l.span-index (words_of l.value)))
