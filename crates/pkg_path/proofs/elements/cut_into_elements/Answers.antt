-- The first comma ends the directory.
use Rattle.std.proofs.Common.{◌∙◌, ap, ◌∷◌, None, Some, lit<}
use Rattle.std.proofs.lemmas.Str.Pattern.{split_once_first}
use Rattle.text_parts.specs.Cuts.{now_all}
use Rattle.pkg_path.proofs.FirstComma.{without_comma, at_comma}
use Rattle.pkg_path.proofs.elements.cut_into_elements.Goals as goal

pub returns-in_ok-split_at-in-Some : goal.returns-in_ok-split_at-in-Some
returns-in_ok-split_at-in-Some c =
    let parts = split_once_first 44 c.args.text.now (Some (c.in-Some.directory, c.in-Some.choices)) c.in-Some.ensures.cases (lit< tt) in
    ap (λ choices. c.in-Some.directory.now ∷ choices) c.in_ok-split_at-in-Some.ensures
    ∙ at_comma c.args.text.now c.in-Some.directory.now c.in-Some.choices.now parts.0 parts.1 parts.2

pub returns-in-None : goal.returns-in-None
returns-in-None c =
    ap (λ items. c.args.text.now ∷ now_all items) c.new.ensures.items
    ∙ without_comma c.args.text.now (split_once_first 44 c.args.text.now None c.in-None.ensures.cases (lit< tt))
