-- Flavors that were tested.
use Rattle.std.proofs.Common.{◌≡◌, ◌∙◌, sym, ap, cond, Bool, false, Err}
use Rattle.mk_base.specs.declared.faults.FaultKind.TheVariants as kinds
use Rattle.mk_base.specs.Meter.{Meter}
use Rattle.mk_base.specs.Outcome.{give, fail}
use Rattle.port_rules.specs.Flavors.{FlavorsValue, has_chosen, checked_flavors}

-- a chosen flavor that the port doesn't have is a fault
pub checked_flavors-fault : (flavors made : FlavorsValue) (has : Bool) (m : Meter) → flavors ≡ made → has ≡ has_chosen flavors → has ≡ false
    → checked_flavors made m ≡ Err (kinds.Flavor, m)
checked_flavors-fault flavors made has m same is not_so =
    ap (λ test. cond test (give made) (fail kinds.Flavor) m) (sym (ap has_chosen same) ∙ sym is ∙ not_so)
