use Rattle.std.specs.Prelude.{◌≡◌, ◌≤◌, ◌+◌, ℕ, nat_lt, if◌then◌else◌, Ok, Err}
use Rattle.std.proofs.Common.{◌∙◌, arith}
use Rattle.mk_base.specs.declared.faults.FaultKind.{FaultKind}
use Rattle.mk_base.specs.declared.faults.FaultKind.TheVariants as kinds
use Rattle.mk_base.specs.declared.budget.TheConstants.{QUESTIONS}
use Rattle.mk_base.specs.Outcome.{Work}

-- what a budget shows: how many units may be spent, how many are spent, and how many questions were asked
pub record Meter : Type 0 where
  pub limit : ℕ
  pub spent : ℕ
  pub questions : ℕ

-- a new budget: nothing is spent yet, and nothing is asked
abbrev pub full : ℕ → Meter
full limit = record { limit = limit; spent = 0; questions = 0 }

-- one unit of work: if one is left, it is spent; else it is a fault, and nothing is spent
abbrev pub pay : Work Meter FaultKind (Unit {0})
pay m = if nat_lt m.spent m.limit then Ok (tt, record m { spent = m.spent + 1 }) else Err (kinds.Budget, m)

-- one question about a file: if it would be one too many, it is a fault; else it is counted
abbrev pub question : Work Meter FaultKind (Unit {0})
question m = if nat_lt m.questions QUESTIONS then Ok (tt, record m { questions = m.questions + 1 }) else Err (kinds.Questions, m)

-- The meter of a budget, and the meter of the same budget later, however the work between them ended. The
-- limit stays, and what was spent and asked isn't taken back.
pub record IsLater (old new : Meter) : Type 0 where
  pub limit : new.limit ≡ old.limit
  pub spent : old.spent ≤ new.spent
  pub questions : old.questions ≤ new.questions

-- if a second meter is later than the first, and a third is later than the second, then the third is later
-- than the first
pub IsLater-on : {first next last : Meter} → IsLater first next → IsLater next last → IsLater first last
IsLater-on first next = record {
  limit = next.limit ∙ first.limit;
  spent = omega (arith, first.spent, next.spent);
  questions = omega (arith, first.questions, next.questions);
}
