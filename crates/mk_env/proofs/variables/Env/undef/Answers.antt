use Rattle.std.proofs.Common.{ap}
use Rattle.mk_env.proofs.TextMap.{texts_of_removed, with-parts}
use Rattle.mk_env.proofs.variables.Env.undef.Goals as goal

pub returns : goal.returns
returns c =
    with-parts _ _ _ _ (ap (λ view. view.0) c.self.view_is)
    (texts_of_removed c.self.inside.variables c.remove.new.self c.args.self.now.1 c.args.name.now (ap (λ view. view.1) c.self.view_is)
    c.remove.ensures.updates)
