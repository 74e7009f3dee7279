-- What rows say, by cases.
use Rattle.std.proofs.Common.{◌≡◌, refl, Bool, true, false, cond, if◌then◌else◌, Option, Some, option_map}
use Rattle.port_index.specs.PathOutcomes.{PathOutcome}
use Rattle.port_index.specs.Seen.{Said, known_seen}
use Rattle.port_index.specs.declared.noted_rows.KnownRow.{KnownRow}

pub known-cases : (same : Bool) (one other : Option KnownRow) → option_map known_seen (cond same one other) ≡
    (if same then option_map known_seen one else option_map known_seen other)
known-cases true one other = refl
known-cases false one other = refl

abbrev outcome : Said → PathOutcome
outcome said = said.outcome

pub outcome-cases : (same : Bool) (one : Said) (other : Option Said) → option_map outcome (if same then Some one else other) ≡
    (if same then Some one.outcome else option_map outcome other)
outcome-cases true one other = refl
outcome-cases false one other = refl
