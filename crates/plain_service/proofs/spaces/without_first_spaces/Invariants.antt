use Rattle.std.proofs.Common.{◌≡◌, length}
use Rattle.plain_service.specs.Spaces.{skip_spaces}
use Rattle.plain_service.proofs.spaces.without_first_spaces.Given as goal

abbrev pub invariant-loop-first : goal.invariant-loop-first
invariant-loop-first l = skip_spaces l.kept ≡ skip_spaces l.bytes

abbrev pub decreases-loop-first : goal.decreases-loop-first
decreases-loop-first l = length l.kept
