-- The first slash is where `split_once` cuts.
use Rattle.std.proofs.Common.{◌∙◌, ap, lit<, option_copied, Some, None}
use Rattle.std.proofs.lemmas.Str.Pattern.{split_once_first}
use Rattle.port_index.proofs.Names.{after_slash-none, after_slash-some}
use Rattle.port_index.proofs.tree_paths.after_slash.Goals as goal

pub returns-in_err-_before : goal.returns-in_err-_before
returns-in_err-_before c =
    ap option_copied c.from_residual.ensures
    ∙ after_slash-none c.args.text.now (split_once_first 47 c.args.text.now None c.in_err-_before.ensures.cases (lit< tt))

pub returns : goal.returns
returns c =
    let parts = split_once_first 47 c.args.text.now (Some (c.in_ok-_before._before, c.in_ok-_before.after))
    c.in_ok-_before.ensures.cases (lit< tt) in
    after_slash-some c.args.text.now c.in_ok-_before.after.now parts.0 parts.2
