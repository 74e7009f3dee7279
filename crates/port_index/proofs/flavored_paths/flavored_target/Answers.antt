-- An item without a comma names no path that has one.
use Rattle.std.proofs.Common.{◌∙◌, ap, sym, subst}
use Rattle.port_deps.specs.ItemText.{NamesPlainPath}
use Rattle.port_index.specs.Flavored.{if_flavored}
use Rattle.port_index.proofs.FlavoredLemmas.{none-plain}
use Rattle.port_index.proofs.flavored_paths.flavored_target.Goals as goal

pub returns-then-not-has_comma : goal.returns-then-not-has_comma
returns-then-not-has_comma c =
    sym (none-plain c.args.depend.now (subst NamesPlainPath c.item.ensures (c.has_comma.ensures.plain c.if-not-has_comma.true)))

pub returns : goal.returns
returns c = c.if_flavored.ensures ∙ ap if_flavored c.in_ok-target_by.ensures
