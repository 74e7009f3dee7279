use Rattle.std.proofs.Common.{◌≡◌, ◌++◌, take}
use Rattle.mk_ref.specs.Outside.{dollars}
use Rattle.mk_ref.proofs.outside_text.push_dollars.Given as goal

abbrev pub invariant-loop : goal.invariant-loop
invariant-loop l = l.bytes.items ≡ l.fn.bytes.items ++ dollars (take l.index l.items)
