-- The texts up to here are in the sets.
use Rattle.std.proofs.Common.{◌≡◌, ◌||◌, true, take, string_bytes}
use Rattle.std.specs.List.{list_all}
use Rattle.port_rules.specs.TextSets.{holds}
use Rattle.port_rules.proofs.flavors.are_known.Given as goal

abbrev pub invariant-loop-text : goal.invariant-loop-text
invariant-loop-text l = list_all (λ text. holds l.one (string_bytes text) || holds l.other (string_bytes text))
    (take l.text-index l.texts) ≡ true
