-- No operator begins before this place.
use Rattle.std.proofs.Common.{◌≡◌, ◌+◌, drop}
use Rattle.ports_query.specs.Conditions.{plain_length}
use Rattle.ports_query.proofs.operators.plain_length.Given as goal

abbrev pub invariant-loop-at : goal.invariant-loop-at
invariant-loop-at l = plain_length l.text ≡ l.at + plain_length (drop l.at l.text)
