use Rattle.std.proofs.Common.{ap, ◌∙◌}
use Rattle.std.specs.FinMap as finite
use Rattle.mk_env.proofs.TextMap.{texts_of-insert, with-parts}
use Rattle.mk_env.proofs.variables.Env.set.Goals as goal

pub returns-clause-ok : goal.returns-clause-ok
returns-clause-ok c =
    let step = texts_of-insert c.self.inside.variables c.insert.new.self c.in_ok-name.name c.in_ok-text.text
    c.in_ok-insert.ensures.updates in
    with-parts _ _ _ _ (ap (λ view. view.0) c.self.view_is)
    ((rw (c.in_ok-name.ensures.ok, c.in_ok-text.ensures.ok) at step)
    ∙ ap (λ texts. finite.insert texts c.args.name.now c.args.text.now) (ap (λ view. view.1) c.self.view_is))
