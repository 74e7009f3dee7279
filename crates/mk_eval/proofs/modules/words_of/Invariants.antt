-- The words so far are those of the places up to here.
use Rattle.std.proofs.Common.{◌≡◌, map, string_bytes, take}
use Rattle.mk_text.specs.Words.{span_text}
use Rattle.mk_eval.proofs.modules.words_of.Given as goal

abbrev pub invariant-loop-span : goal.invariant-loop-span
invariant-loop-span l = map string_bytes l.found.items ≡ map (span_text l.text) (take l.span-index l.span-items)
