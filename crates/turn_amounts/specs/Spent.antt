-- What is spent: units, and answers checked of evaluations that were kept.
use Rattle.std.specs.Prelude.{◌≡◌, ◌≤◌, ◌+◌, ◌-◌, ◌^◌, ℕ, min}
use Rattle.turn_amounts.specs.declared.spent.Spent.{Spent}

abbrev pub no_spending : Spent
no_spending = record { units = 0; checks = 0 }

-- A count of 64 bits, which goes no higher than its greatest number. What one evaluation, record or value costs is far
-- below it. What many requests or paths cost together may reach it.
abbrev pub counted : ℕ → ℕ
counted n = min n (2 ^ 64 - 1)

-- one thing was spent and more, as such counts
abbrev pub spent_together : Spent → Spent → Spent
spent_together one more = record { units = counted (one.units + more.units); checks = counted (one.checks + more.checks) }

-- units and checks together
abbrev pub total_of : Spent → ℕ
total_of spent = spent.units + spent.checks

-- nothing of what was spent is taken back
pub record IsUpFrom (before after : Spent) : Type 0 where
  pub units : before.units ≤ after.units
  pub checks : before.checks ≤ after.checks

-- so much was spent before, and this in a turn
abbrev pub spent_in_all : Spent → Spent → Spent
spent_in_all before more = record { units = before.units + more.units; checks = before.checks + more.checks }
