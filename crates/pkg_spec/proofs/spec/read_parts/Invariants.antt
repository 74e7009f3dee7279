-- What is read so far is read of the parts up to here.
use Rattle.std.proofs.Common.{take}
use Rattle.text_parts.specs.Cuts.{now_all}
use Rattle.pkg_spec.specs.Seen.{ReadsParts}
use Rattle.pkg_spec.proofs.spec.read_parts.Given as goal

abbrev pub invariant-loop-part : goal.invariant-loop-part
invariant-loop-part l = ReadsParts (now_all (take l.part-index l.parts)) l.reading
