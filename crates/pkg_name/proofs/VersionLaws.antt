-- The laws of the order of versions follow from its being total, and tying only at one text.
use Rattle.std.proofs.Common.{◌≡◌, ◌⊎◌, ℕ, List, inl, inr, refl, sym, ◌∙◌, ap, true≢false}
use Rattle.std.specs.Ordering.{is_lt, ordering_reverse}
use Rattle.std.specs.declared.cmp.Ordering.{Ordering}
use Rattle.std.specs.declared.cmp.Ordering.TheVariants.{Less, Equal, Greater}
use Rattle.pkg_name.specs.Order.{version_cmp}
use Rattle.pkg_name.specs.OrderLaws.{version_cmp_total, version_cmp-same, version_cmp-itself}
use Rattle.pkg_name.specs.Laws.{IsLower, AnyTwoCompare, NeverBothLower, LowerThanLower, EqualAsTexts, OtherWayRound}

-- one of the three answers
by_answer : (version other : List ℕ) (r : Ordering) → version_cmp version other ≡ r → IsLower version other
    ⊎ (version ≡ other) ⊎ IsLower other version
by_answer version other Less e = inl e
by_answer version other Equal e = inr (inl (version_cmp-same version other e))
by_answer version other Greater e = inr (inr (version_cmp_total.antisymm other version ∙ ap ordering_reverse e))

pub any_two_compare : AnyTwoCompare
any_two_compare version other = by_answer version other (version_cmp version other) refl

pub never_both_lower : NeverBothLower
never_both_lower version other first second =
    let turned : version_cmp version other ≡ Greater = version_cmp_total.antisymm version other ∙ ap ordering_reverse second in
    absurd (true≢false (ap is_lt (sym first ∙ turned)))

pub lower_than_lower : LowerThanLower
lower_than_lower = version_cmp_total.trans

pub equal_as_texts : EqualAsTexts
equal_as_texts version other = (version_cmp-same version other, λ e. rw e (version_cmp-itself other))

pub other_way_round : OtherWayRound
other_way_round = version_cmp_total.antisymm
