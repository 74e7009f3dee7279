-- The conditions up to here are met.
use Rattle.std.proofs.Common.{◌≡◌, take, true}
use Rattle.std.specs.List.{list_all}
use Rattle.ports_query.specs.Conditions.{condition_seen}
use Rattle.ports_query.specs.Candidate.{meets}
use Rattle.ports_query.proofs.candidate.meets_all.Given as goal

abbrev pub invariant-loop-condition : goal.invariant-loop-condition
invariant-loop-condition l =
    list_all (λ condition. meets l.candidate.path.now l.candidate.port.now l.candidate.found.now (condition_seen condition))
    (take l.condition-index l.conditions) ≡ true
