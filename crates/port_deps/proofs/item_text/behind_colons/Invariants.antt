-- The parts stay when a colon that comes first goes.
use Rattle.std.proofs.Common.{◌≡◌, length}
use denote.Shadow.{shadow}
use denote.Text.{Utf8}
use Rattle.port_deps.specs.ItemText.{parts_of_item}
use Rattle.port_deps.proofs.item_text.behind_colons.Given as goal

abbrev pub invariant-loop-behind : goal.invariant-loop-behind
invariant-loop-behind l = record {
  text : shadow (Utf8 l.left);
  parts : parts_of_item l.left ≡ parts_of_item l.text;
}

abbrev pub decreases-loop-behind : goal.decreases-loop-behind
decreases-loop-behind l = length l.left
