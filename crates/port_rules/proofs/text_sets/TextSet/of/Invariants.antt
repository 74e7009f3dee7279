-- The set holds the texts up to here.
use Rattle.std.proofs.Common.{◌≡◌, ℕ, List, map, take, string_bytes}
use Rattle.mk_env.specs.Expansion.{is_among}
use Rattle.port_rules.specs.TextSets.{holds}
use Rattle.port_rules.proofs.text_sets.TextSet.of.Given as goal

abbrev pub invariant-loop-text : goal.invariant-loop-text
invariant-loop-text l = (text : List ℕ) → holds l.set text ≡ is_among text (map string_bytes (take l.text-index l.texts))
