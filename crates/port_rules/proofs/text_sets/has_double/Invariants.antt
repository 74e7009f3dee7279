-- The set holds the texts up to here, and none of them is there twice.
use Rattle.std.proofs.Common.{◌≡◌, ℕ, List, false, map, take, string_bytes}
use Rattle.mk_env.specs.Expansion.{is_among}
use Rattle.port_rules.specs.TextSets.{holds}
use Rattle.port_rules.specs.Packages.{has_double}
use Rattle.port_rules.proofs.text_sets.has_double.Given as goal

abbrev pub invariant-loop-text : goal.invariant-loop-text
invariant-loop-text l = record {
  held : (text : List ℕ) → holds l.before text ≡ is_among text (map string_bytes (take l.text-index l.texts));
  apart : has_double (map string_bytes (take l.text-index l.texts)) ≡ false;
}
