use Rattle.std.proofs.Common.{◌≡◌, ◌∙◌, map, ap, subst, sym, refl, rules, codes, string_bytes, List, Option}
use Rattle.ports_core.specs.declared.keys.Config.{Config}
use Rattle.ports_core.specs.Keys.{key_texts}
use Rattle.clap.specs.Words.{App, Row, Text, app_of, fault_of, found_of, is_simple, rows_of, subcommand_of}
use Rattle.clap.specs.Faults.{is_simple_and_free}
use Rattle.portsd_run.specs.declared.command_line.Invocation.TheVariants.{Replay, Serve}
use Rattle.portsd_run.specs.CommandLine.{SubcommandAsks, portsd}
use Rattle.portsd_run.proofs.CommandFacts.{is_met, is_unmet, portsd_is_free, portsd_is_simple}
use Rattle.portsd_run.proofs.command_line.read_command.Goals as goal

pub returns-in-Some-clause-read : goal.returns-in-Some-clause-read
returns-in-Some-clause-read c =
    let words = map string_bytes c.args.words.now in
    let is_portsd : app_of c.in_ok-portsd_command.field-0 ≡ portsd = c.in_ok-portsd_command.ensures in
    let met = c.in_ok-matches.ensures.matches (ap is_simple is_portsd ∙ portsd_is_simple) in
    let invocation = met.1 ∙ ap (λ (a : App). subcommand_of a words) is_portsd in
    let found = is_met _ _ _ c.in-Some.name.now (rows_of (found_of c.in-Some.given.now)) (sym c.in-Some.ensures.name)
    (sym c.in-Some.ensures.rows) in
    let is_serve : c.in-Some.name.now ≡ codes "serve" = search rules in
    subst (λ (s : Option (Text × List Row)). SubcommandAsks s (Serve c.in_ok-serving_given-in-Some.field-0)) (sym found ∙ invocation)
    (λ named. c.in_ok-serving_given-in-Some.ensures, λ other. absurd (other is_serve))

pub returns-in-Some-clause-fails : goal.returns-in-Some-clause-fails
returns-in-Some-clause-fails c =
    let words = map string_bytes c.args.words.now in
    let is_portsd : app_of c.in_ok-portsd_command.field-0 ≡ portsd = c.in_ok-portsd_command.ensures in
    ap (λ (a : App). fault_of a words) (sym is_portsd) ∙ c.in_ok-matches.ensures.kinds (ap is_simple_and_free is_portsd ∙ portsd_is_free)

pub returns-in-Some-2-clause-read : goal.returns-in-Some-2-clause-read
returns-in-Some-2-clause-read c =
    let words = map string_bytes c.args.words.now in
    let is_portsd : app_of c.in_ok-portsd_command.field-0 ≡ portsd = c.in_ok-portsd_command.ensures in
    let met = c.in_ok-matches.ensures.matches (ap is_simple is_portsd ∙ portsd_is_simple) in
    let invocation = met.1 ∙ ap (λ (a : App). subcommand_of a words) is_portsd in
    let found = is_met _ _ _ c.in-Some.name.now (rows_of (found_of c.in-Some.given.now)) (sym c.in-Some.ensures.name)
    (sym c.in-Some.ensures.rows) in
    let is_other : c.in-Some.name.now ≡ codes "serve" → ⊥ = search rules in
    subst (λ (s : Option (Text × List Row)). SubcommandAsks s (Replay c.in_ok-config_given-in-Some-2.field-0)) (sym found ∙ invocation)
    (λ named. absurd (is_other named), λ other. c.in_ok-config_given-in-Some-2.ensures)

pub returns-in-Some-2-clause-fails : goal.returns-in-Some-2-clause-fails
returns-in-Some-2-clause-fails c =
    let words = map string_bytes c.args.words.now in
    let is_portsd : app_of c.in_ok-portsd_command.field-0 ≡ portsd = c.in_ok-portsd_command.ensures in
    ap (λ (a : App). fault_of a words) (sym is_portsd) ∙ c.in_ok-matches.ensures.kinds (ap is_simple_and_free is_portsd ∙ portsd_is_free)

pub returns-clause-read : goal.returns-clause-read
returns-clause-read c =
    let words = map string_bytes c.args.words.now in
    let is_portsd : app_of c.in_ok-portsd_command.field-0 ≡ portsd = c.in_ok-portsd_command.ensures in
    let met = c.in_ok-matches.ensures.matches (ap is_simple is_portsd ∙ portsd_is_simple) in
    let invocation = met.1 ∙ ap (λ (a : App). subcommand_of a words) is_portsd in
    let none = is_unmet _ _ _ (sym c.in-None.ensures.name) in
    let config : Config = record { keys = c.new.result; parses = 256; evals = 1024 } in
    subst (λ (s : Option (Text × List Row)). SubcommandAsks s (Replay config)) (sym none ∙ invocation)
    (ap key_texts c.new.ensures.items, refl, refl)

pub returns-clause-fails : goal.returns-clause-fails
returns-clause-fails c =
    let words = map string_bytes c.args.words.now in
    let is_portsd : app_of c.in_ok-portsd_command.field-0 ≡ portsd = c.in_ok-portsd_command.ensures in
    ap (λ (a : App). fault_of a words) (sym is_portsd) ∙ c.in_ok-matches.ensures.kinds (ap is_simple_and_free is_portsd ∙ portsd_is_free)
