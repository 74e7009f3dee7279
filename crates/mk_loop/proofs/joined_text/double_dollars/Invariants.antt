use Rattle.std.proofs.Common.{◌≡◌, ◌≤◌, ◌++◌, take, string_bytes}
use Rattle.std.specs.Prelude.{slice_range}
use Rattle.std.specs.Str.{IsCharBoundary}
use Rattle.mk_loop.specs.BodyLine.{double_dollars}
use Rattle.mk_loop.proofs.joined_text.double_dollars.Given as goal

abbrev pub invariant-loop-at : goal.invariant-loop-at
invariant-loop-at l = record {
  ordered : l.copied ≤ l.at;
  starts : IsCharBoundary l.text l.copied;
  made : string_bytes l.made ++ slice_range l.text l.copied l.at ≡ double_dollars (take l.at l.text);
}
