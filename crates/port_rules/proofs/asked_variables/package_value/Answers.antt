-- The package `-` has the value of the variable itself.
use Rattle.std.proofs.Common.{◌∙◌, sym, subst, option_map, string_bytes}
use Rattle.mk_base.specs.Stops.{GivesPurely}
use Rattle.port_rules.proofs.OwnValues.{package_value-once}
use Rattle.port_rules.proofs.asked_variables.package_value.Goals as goal

pub returns-then-eq : goal.returns-then-eq
returns-then-eq c =
    subst (λ end. GivesPurely (option_map string_bytes) c.value.result c.value.new.budget end)
    (sym (package_value-once c.args.env.now c.args.name.now c.args.subpackage.now c.args.budget.now (sym c.eq.ensures ∙ c.if-eq.true)))
    c.value.ensures
