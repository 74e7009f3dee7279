-- What may be spent is bounded.
use Rattle.std.proofs.Common.{◌≡◌, ℕ, ◌≤◌, ◌-◌, ◌⊎◌, inl, inr, ap, arith}
use Rattle.turn_amounts.specs.declared.spent.Spent.{Spent}
use Rattle.plain_service.specs.declared.questions.Question.TheVariants.{Settled, OfFile, OfPort, OfIndex}
use Rattle.plain_service.specs.Spent.{StayWithin, TakeAllUnchecked}

abbrev units_of : Spent → ℕ
units_of spent = spent.units

abbrev checks_of : Spent → ℕ
checks_of spent = spent.checks

-- all units are spent, or those of the evaluation less
within_paid : (cost evaluation units checks : ℕ) → (units ≡ cost) ⊎ ((1 ≤ checks) × (units ≡ cost - evaluation)) → units ≤ cost
within_paid cost evaluation units checks (inl whole) = omega (arith, whole)
within_paid cost evaluation units checks (inr (checked, less)) = omega (arith, less)

-- all units are spent if no answer is checked
whole_paid : (cost evaluation units checks : ℕ) → checks ≡ 0 → (units ≡ cost) ⊎ ((1 ≤ checks) × (units ≡ cost - evaluation)) → units ≡ cost
whole_paid cost evaluation units checks none (inl whole) = whole
whole_paid cost evaluation units checks none (inr (checked, less)) = absurd (omega (arith, none, checked))

pub stay_within : StayWithin
stay_within world (Settled prepared) spent is = record { units = omega (arith, ap units_of is); checks = omega (arith, ap checks_of is) }
stay_within world (OfFile asked) spent is = record { units = omega (arith, ap units_of is); checks = omega (arith, ap checks_of is) }
stay_within world (OfPort asked) spent spends = record { units = within_paid _ _ spent.units spent.checks spends.paid; checks = spends.few }
stay_within world (OfIndex asked) spent spends = spends

pub take_all_unchecked : TakeAllUnchecked
take_all_unchecked world (Settled prepared) spent one none is = ap units_of is
take_all_unchecked world (OfFile asked) spent one none is = ap units_of is
take_all_unchecked world (OfPort asked) spent one none spends = whole_paid _ _ spent.units spent.checks none spends.paid
take_all_unchecked world (OfIndex asked) spent one none spends = absurd cc
