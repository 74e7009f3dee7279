-- The texts up to here are conditions, and are read.
use Rattle.std.proofs.Common.{◌≡◌, map, drop}
use Rattle.text_parts.specs.Cuts.{now_all}
use Rattle.ports_query.specs.Conditions.{condition_seen, conditions_of}
use Rattle.ports_query.proofs.Reading.{in_front}
use Rattle.ports_query.proofs.conditions.read_conditions.Given as goal

abbrev pub invariant-loop-text : goal.invariant-loop-text
invariant-loop-text l = conditions_of (now_all l.texts) ≡ in_front (map condition_seen l.conditions.items)
    (conditions_of (drop l.text-index (now_all l.texts)))
