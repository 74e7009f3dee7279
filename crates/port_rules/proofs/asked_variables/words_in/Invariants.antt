-- The words so far are those at the places up to here.
use Rattle.std.proofs.Common.{◌≡◌, map, take, string_bytes}
use Rattle.mk_text.specs.Words.{span_text}
use Rattle.port_rules.proofs.asked_variables.words_in.Given as goal

abbrev pub invariant-loop-span : goal.invariant-loop-span
invariant-loop-span l = map string_bytes l.found.items ≡ map (span_text l.text) (take l.span-index l.span-items)
