use Rattle.std.proofs.Common.{ap, ap₂, codes, true, ◌≡◌, ◌∙◌}
use Rattle.std.proofs.lemmas.Result.{IfOk-weaker}
use Rattle.clap.specs.Simple.{app_of_fields, on_top}
use Rattle.clap.specs.Words.{App, app_of, new_app, with_subcommand}
use Rattle.portsd_run.proofs.CommandFacts.{third_is_false}
use Rattle.portsd_run.proofs.command_line.portsd_command.Goals as goal

abbrev requiring : App → App
requiring = on_top (λ s. record s { subcommand_required = true })

pub returns : goal.returns
returns c =
    let named : app_of c.about.result ≡ new_app (codes "portsd") = ap app_of_fields c.about.ensures ∙ c.new.ensures.app in
    let top : app_of c.subcommand_required.result ≡ requiring (new_app (codes "portsd")) = ap app_of_fields c.subcommand_required.ensures
    ∙ ap requiring named in
    let serves = c.in_ok-subcommand.ensures.shape (third_is_false _ _ _ _ (ap (λ (a : App). a.top.is_plain) c.in_ok-serve_command.ensures))
    ∙ ap₂ with_subcommand top (ap (λ (a : App). a.top) c.in_ok-serve_command.ensures) in
    IfOk-weaker c.subcommand-2.result _ _
    (λ r h. h.shape (third_is_false _ _ _ _ (ap (λ (a : App). a.top.is_plain) c.in_ok-replay_command.ensures))
    ∙ ap₂ with_subcommand serves (ap (λ (a : App). a.top) c.in_ok-replay_command.ensures)) c.subcommand-2.ensures
