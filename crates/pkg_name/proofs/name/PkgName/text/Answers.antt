use Rattle.std.proofs.Common.{◌∙◌, ap}
use Rattle.std.proofs.lemmas.Result.{IfOk-weaker}
use Rattle.pkg_name.specs.Name.{split_name}
use Rattle.pkg_name.proofs.name.PkgName.text.Goals as goal

pub returns-clause-split : goal.returns-clause-split
returns-clause-split c =
    IfOk-weaker c.format.result _ _ (λ _ e. ap split_name e ∙ c.is_split_from_its_text.ensures) c.format.ensures.ok
