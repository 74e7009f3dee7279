-- The mark, spread with the bytes up to here.
use Rattle.std.proofs.Common.{◌≡◌, take}
use Rattle.std.specs.List.{fold}
use Rattle.text_graph.specs.Slots.{spread}
use Rattle.text_graph.proofs.numbers.spread_bytes.Given as goal

abbrev pub invariant-loop-byte : goal.invariant-loop-byte
invariant-loop-byte l = l.mark ≡ fold spread l.fn.mark (take l.byte-index l.bytes)
