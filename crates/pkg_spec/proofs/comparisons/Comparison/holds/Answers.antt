-- Versions are equal as texts just where they compare as equal.
use Rattle.std.proofs.Common.{◌∙◌, ap, sym}
use Rattle.pkg_name.specs.Order.{version_cmp}
use Rattle.pkg_name.specs.OrderLaws.{version_cmp_ties}
use Rattle.pkg_spec.specs.NameSet.{allows_ordering}
use Rattle.pkg_spec.proofs.comparisons.Comparison.holds.Goals as goal

pub returns-in-Equals : goal.returns-in-Equals
returns-in-Equals c =
    c.eq.ensures ∙ version_cmp_ties c.args.version.now c.args.self.now.version
    ∙ sym (ap (λ sign. allows_ordering sign (version_cmp c.args.version.now c.args.self.now.version)) c.in-Equals.is)
