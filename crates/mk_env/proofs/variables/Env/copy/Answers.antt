use Rattle.std.proofs.Common.{ap, ◌∙◌}
use Rattle.mk_env.proofs.TextMap.{texts_of-clones}
use Rattle.mk_env.proofs.variables.Env.copy.Goals as goal

pub returns : goal.returns
returns c =
    ap (λ texts. (c.self.inside.profile, texts))
    (texts_of-clones c.self.inside.variables.entries c.in_ok-variables.variables.entries c.in_ok-variables.ensures.cases)
    ∙ c.self.view_is
