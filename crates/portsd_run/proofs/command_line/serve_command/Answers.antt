use Rattle.std.proofs.Common.{ap, ap₂, codes, ◌≡◌, ◌∙◌}
use Rattle.std.proofs.lemmas.Result.{IfOk-weaker}
use Rattle.clap.specs.Simple.{app_of_fields}
use Rattle.clap.specs.Words.{app_of, new_app, with_rule}
use Rattle.portsd_run.proofs.command_line.serve_command.Goals as goal

pub returns : goal.returns
returns c =
    let begun : app_of c.about.result ≡ new_app (codes "serve") = ap app_of_fields c.about.ensures ∙ c.new.ensures.app in
    let with_port = c.in_ok-arg.ensures.shape c.port_argument.ensures.1 ∙ ap₂ with_rule begun c.port_argument.ensures.0 in
    let with_turns = c.in_ok-arg-2.ensures.shape c.turns_argument.ensures.1 ∙ ap₂ with_rule with_port c.turns_argument.ensures.0 in
    let with_parses = c.in_ok-arg-3.ensures.shape c.size_argument.ensures.1 ∙ ap₂ with_rule with_turns c.size_argument.ensures.0 in
    let with_evals = c.in_ok-arg-4.ensures.shape c.size_argument-2.ensures.1 ∙ ap₂ with_rule with_parses c.size_argument-2.ensures.0 in
    IfOk-weaker c.arg-5.result _ _ (λ r h. h.shape c.keys_argument.ensures.1 ∙ ap₂ with_rule with_evals c.keys_argument.ensures.0)
    c.arg-5.ensures
