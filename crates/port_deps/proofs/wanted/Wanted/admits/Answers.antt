use Rattle.std.proofs.Common.{◌∙◌, ap, sym}
use Rattle.pkg_spec.specs.NameSet.{admitted_by}
use Rattle.port_deps.specs.Items.{WantedValue}
use Rattle.port_deps.specs.ItemText.{spec_or_any}
use Rattle.port_deps.proofs.AnyPackage.{any-admitted}
use Rattle.port_deps.proofs.wanted.Wanted.admits.Goals as goal

pub returns-in-None : goal.returns-in-None
returns-in-None c =
    sym (any-admitted c.args.name.now) ∙ ap (λ spec. admitted_by (spec_or_any spec) c.args.name.now) (sym c.in-None.is)
    ∙ ap (λ (wanted : WantedValue). admitted_by wanted.spec c.args.name.now) c.self.view_is
