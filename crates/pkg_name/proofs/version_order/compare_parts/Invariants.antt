-- The parts before these tied, so those from here on decide.
use Rattle.std.proofs.Common.{◌≡◌, true, length}
use Rattle.std.specs.Cmp.Lexicographic.{slice_cmp}
use Rattle.pkg_name.specs.Version.{has_short_numbers}
use Rattle.pkg_name.specs.Order.{part_cmp, part_keys}
use Rattle.pkg_name.proofs.version_order.compare_parts.Given as goal

abbrev pub invariant-loop-behind : goal.invariant-loop-behind
invariant-loop-behind l =
    (has_short_numbers l.text ≡ true) × (has_short_numbers l.other ≡ true)
    × (slice_cmp part_cmp (part_keys l.fn.text) (part_keys l.fn.other) ≡ slice_cmp part_cmp (part_keys l.text) (part_keys l.other))

abbrev pub decreases-loop-behind : goal.decreases-loop-behind
decreases-loop-behind l = length l.text
