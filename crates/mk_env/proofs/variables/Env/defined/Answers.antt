use Rattle.std.proofs.Common.{ap, ◌∙◌}
use Rattle.mk_env.proofs.TextMap.{is_some-view}
use Rattle.mk_env.proofs.variables.Env.defined.Goals as goal

pub returns : goal.returns
returns c = c.contains_key.ensures ∙ is_some-view c.self.inside.variables c.args.self.now.1 c.args.name.now
    (ap (λ view. view.1) c.self.view_is)
