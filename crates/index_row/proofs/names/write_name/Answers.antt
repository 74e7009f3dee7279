use Rattle.std.proofs.Common.{◌∙◌, ap}
use Rattle.std.proofs.lemmas.Result.{on_ok_weaker}
use Rattle.pkg_name.specs.Name.{split_name}
use Rattle.index_row.proofs.NameTexts.{Adds-name}
use Rattle.index_row.proofs.names.write_name.Goals as goal

pub returns : goal.returns
returns c =
    on_ok_weaker c.write_text.result
    (Adds-name _ _ _ _ (ap split_name c.as_str.ensures.value ∙ c.in_ok-text.ensures.split))
    c.write_text.ensures
