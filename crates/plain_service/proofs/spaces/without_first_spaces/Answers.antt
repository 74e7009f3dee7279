use Rattle.std.proofs.Common.{sym}
use Rattle.std.proofs.lemmas.List.{nil_from_length}
use Rattle.plain_service.proofs.TrimmingLemmas.{first_skipped, first_stays, none_left}
use Rattle.plain_service.proofs.spaces.without_first_spaces.Goals as goal

pub returns-then-not-is_space : goal.returns-then-not-is_space
returns-then-not-is_space c =
    first_stays _ _ _ _ c.in-Some.ensures.cases.0 (sym c.if-not-is_space.ensures) c.loop-first.invariant

pub loop-first-preserved : goal.loop-first-preserved
loop-first-preserved c =
    first_skipped _ _ _ _ c.in-Some.ensures.cases.0 (sym c.if-not-is_space.ensures) c.loop-first.invariant

pub returns : goal.returns
returns c = none_left _ _ (nil_from_length _ c.in_default.ensures.cases) c.loop-first.invariant
