-- Whether a text names a directory alone: by its first comma.
use Rattle.std.proofs.Common.{◌∙◌, sym, ap, not, Some, None, lit<}
use Rattle.std.proofs.lemmas.Str.Pattern.{split_once_first}
use Rattle.pkg_path.proofs.Bare.{empty_is_none, alone, with_choices}
use Rattle.pkg_path.proofs.FirstComma.{without_comma}
use Rattle.pkg_path.proofs.path.is_bare.Goals as goal

pub returns-in-Some : goal.returns-in-Some
returns-in-Some c =
    sym (with_choices c.args.text.now (split_once_first 44 c.args.text.now (Some c.in-Some.field-0) c.in-Some.ensures.cases (lit< tt)).0)

pub returns-then-not-is_empty : goal.returns-then-not-is_empty
returns-then-not-is_empty c =
    c.is_well_written.ensures
    ∙ sym (alone c.args.text.now (sym c.is_empty.ensures ∙ c.if-not-is_empty.true)
    (without_comma c.args.text.now (split_once_first 44 c.args.text.now None c.in-None.ensures.cases (lit< tt))))

pub returns-else-not-is_empty : goal.returns-else-not-is_empty
returns-else-not-is_empty c =
    ap not c.if-not-is_empty.false
    ∙ sym (empty_is_none c.args.text.now (sym c.is_empty.ensures ∙ c.if-not-is_empty.false))
