use Rattle.std.proofs.Common.{◌≡◌, length, reverse}
use Rattle.plain_service.specs.Spaces.{skip_spaces}
use Rattle.plain_service.proofs.spaces.without_last_spaces.Given as goal

abbrev pub invariant-loop-last : goal.invariant-loop-last
invariant-loop-last l = skip_spaces (reverse l.kept) ≡ skip_spaces (reverse l.bytes)

abbrev pub decreases-loop-last : goal.decreases-loop-last
decreases-loop-last l = length l.kept
