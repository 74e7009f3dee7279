use Rattle.std.proofs.Common.{◌∙◌, sym}
use Rattle.port_deps.proofs.PlainPaths.{plain-item}
use Rattle.port_deps.proofs.item_text.has_comma.Goals as goal

pub returns-clause-plain : goal.returns-clause-plain
returns-clause-plain c = λ none. plain-item c.args.text.now (sym c.holds.ensures ∙ none)
