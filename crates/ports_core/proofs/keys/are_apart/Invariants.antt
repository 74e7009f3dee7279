use Rattle.std.proofs.Common.{◌≡◌, drop}
use Rattle.ports_core.specs.Keys.{are_apart, key_texts}
use Rattle.ports_core.proofs.keys.are_apart.Given as goal

-- the keys before these are apart from one another and from these
abbrev pub invariant-loop-i : goal.invariant-loop-i
invariant-loop-i l = are_apart (key_texts l.keys) ≡ are_apart (key_texts (drop l.i l.keys))
