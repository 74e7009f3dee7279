-- The choices from here on name the first subpackage.
use Rattle.std.proofs.Common.{◌≡◌, drop}
use Rattle.std.specs.List.{find}
use Rattle.pkg_path.specs.Paths.{is_subpackage}
use Rattle.text_parts.specs.Cuts.{now_all}
use Rattle.pkg_path.proofs.elements.subpackage_of.Given as goal

abbrev pub invariant-loop-choice : goal.invariant-loop-choice
invariant-loop-choice l = find is_subpackage (now_all (drop l.choice-index l.choices)) ≡ find is_subpackage (now_all l.choices)
