-- The copies so far are the texts up to here.
use Rattle.std.proofs.Common.{◌≡◌, map, take}
use Rattle.std.specs.String.{string_bytes}
use Rattle.text_parts.specs.Cuts.{now_all}
use Rattle.text_parts.proofs.parts.copies_of.Given as goal

abbrev pub invariant-loop-text : goal.invariant-loop-text
invariant-loop-text l = map string_bytes l.copies.items ≡ now_all (take l.text-index l.texts)
