-- The texts up to here are comparisons, and are read.
use Rattle.std.proofs.Common.{◌≡◌, true, map, take}
use Rattle.std.specs.List.{list_all}
use Rattle.pkg_spec.specs.Alternatives.{is_comparison, signed}
use Rattle.text_parts.specs.Cuts.{now_all}
use Rattle.pkg_spec.specs.Seen.{comparison_seen}
use Rattle.pkg_spec.proofs.comparisons.read_comparisons.Given as goal

abbrev pub invariant-loop-text : goal.invariant-loop-text
invariant-loop-text l = (list_all is_comparison (now_all (take l.text-index l.texts)) ≡ true)
    × (map comparison_seen l.comparisons.items ≡ map signed (now_all (take l.text-index l.texts)))
