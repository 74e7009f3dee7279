use Rattle.std.proofs.Common.{ap, ◌∙◌, Some, option_map, string_bytes}
use Rattle.mk_env.proofs.TextMap.{get-view}
use Rattle.mk_env.proofs.variables.Env.get.Goals as goal

pub returns-in-Some : goal.returns-in-Some
returns-in-Some c =
    ap Some c.as_str.ensures.value ∙ ap (option_map string_bytes) c.in-Some.ensures.value ∙
    get-view c.self.inside.variables c.args.self.now.1 c.args.name.now (ap (λ view. view.1) c.self.view_is)

pub returns-in-None : goal.returns-in-None
returns-in-None c =
    ap (option_map string_bytes) c.in-None.ensures.value ∙
    get-view c.self.inside.variables c.args.self.now.1 c.args.name.now (ap (λ view. view.1) c.self.view_is)
