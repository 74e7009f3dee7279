use Rattle.std.proofs.Common.{sym}
use Rattle.std.proofs.lemmas.List.{nil_from_length}
use Rattle.plain_service.proofs.TrimmingLemmas.{last_skipped, last_stays, none_left-reverse}
use Rattle.plain_service.proofs.spaces.without_last_spaces.Goals as goal

pub returns-then-not-is_space : goal.returns-then-not-is_space
returns-then-not-is_space c =
    last_stays _ _ _ _ c.in-Some.ensures.cases.0 (sym c.if-not-is_space.ensures) c.loop-last.invariant

pub loop-last-preserved : goal.loop-last-preserved
loop-last-preserved c =
    last_skipped _ _ _ _ c.in-Some.ensures.cases.0 (sym c.if-not-is_space.ensures) c.loop-last.invariant

pub returns : goal.returns
returns c = none_left-reverse _ _ (nil_from_length _ c.in_default.ensures.cases) c.loop-last.invariant
