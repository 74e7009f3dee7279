use Rattle.std.proofs.Common.{codes}
use Rattle.mk_eval.proofs.Joining.{joined-between}
use Rattle.mk_eval.proofs.start_variables.trees_text.Goals as goal

pub returns : goal.returns
returns c = joined-between c.join.result (codes ":") c.trees.result.now c.args.settings.now.path c.trees.ensures.trees c.join.ensures.ok
