-- What the words of a command line ask for.
use Rattle.std.specs.Prelude.{◌≡◌, ◌⊎◌, ℕ, pos, true, List, [], Option, Some, None, unwrap_or, option_and_then, if◌then◌else◌, codes}
use Rattle.std.specs.Prelude.{String, map, string_bytes}
use Rattle.std.specs.Process.{exit_status}
use Rattle.std.specs.declared.process.ExitCode.{ExitCode}
use Rattle.std.specs.Str.Parse.{digits_value, without_leading_plus}
use Rattle.std.specs.Io.KnownBytes.{Keeps}
use Rattle.clap.specs.Lexer.{usize_max}
use Rattle.clap.specs.ValueTests.{is_unsigned_in}
use Rattle.clap.specs.Words.{App, Row, Rule, Text, IsAmong, all_of, fault_of, new_app, new_rule, one_of}
use Rattle.clap.specs.Words.{subcommand_of, with_rule, with_subcommand}
use Rattle.clap.specs.declared.builder.action.ArgAction.TheVariants.{Append, Set}
use Rattle.clap.specs.declared.builder.value_parser.ValueParser.TheVariants as parser
use Rattle.clap.specs.declared.error.kind.ErrorKind.{ErrorKind}
use Rattle.clap.specs.declared.error.kind.ErrorKind.TheVariants as errors
use Rattle.ports_serve.specs.Calls.{Call}
use Rattle.ports_core.specs.declared.keys.Config.{Config}
use Rattle.ports_core.specs.Keys.{key_texts}
use Rattle.portsd_run.specs.declared.command_line.Invocation.{Invocation}
use Rattle.portsd_run.specs.declared.command_line.Invocation.TheVariants.{Replay, Serve}
use Rattle.portsd_run.specs.declared.command_line.Serving.{Serving}
use Rattle.portsd_text.specs.declared.failure.Failure.TheVariants.{CannotWrite, Memory}
use Rattle.portsd_run.specs.ScriptRun.{Streams, Finishes}
use Rattle.portsd_text.specs.Output.{AppendsUpTo}
use Rattle.portsd_text.specs.Failures.{failure_text}
use Rattle.portsd_run.specs.ServiceRun.{FinishesServing}
use Rattle.refusals.specs.Refused.{refused}

-- `--parses N` and `--evals N`
abbrev pub size_argument : Text → Rule
size_argument name = record (new_rule name) {
  long = Some name;
  action = Some Set;
  value_names = 1;
  parser = Some (parser.Signed (pos 1) (pos 65536));
}

-- `KEY...`
abbrev pub keys_argument : Rule
keys_argument = record (new_rule (codes "keys")) {
  action = Some Append;
  range = Some (record { start_inclusive = 1; end_inclusive = usize_max });
  value_names = 1;
  required = true;
}

-- `replay [--parses N] [--evals N] KEY...`
abbrev pub replay : App
replay =
    with_rule (with_rule (with_rule (new_app (codes "replay")) (size_argument (codes "parses")))
    (size_argument (codes "evals"))) keys_argument

-- `--port P`
abbrev pub port_argument : Rule
port_argument = record (new_rule (codes "port")) {
  long = Some (codes "port");
  action = Some Set;
  value_names = 1;
  parser = Some (parser.Signed (pos 1) (pos 65535));
  required = true;
}

-- `--turns N`
abbrev pub turns_argument : Rule
turns_argument = record (new_rule (codes "turns")) {
  long = Some (codes "turns");
  action = Some Set;
  value_names = 1;
  parser = Some (parser.Signed (pos 1) (pos 4294967295));
  required = true;
}

-- `serve --port P --turns N [--parses N] [--evals N] KEY...`
abbrev pub serve : App
serve =
    with_rule (with_rule
    (with_rule (with_rule (with_rule (new_app (codes "serve")) port_argument) turns_argument)
    (size_argument (codes "parses"))) (size_argument (codes "evals"))) keys_argument

-- `portsd serve ..` and `portsd replay ..`
abbrev pub portsd : App
portsd =
    let app = with_subcommand (with_subcommand (new_app (codes "portsd")) serve.top) replay.top in
    record app { top = record app.top { subcommand_required = true } }

-- the number, up to a greatest one, that a text writes; a plus may precede its digits
abbrev pub number_up_to : ℕ → Text → Option ℕ
number_up_to greatest text =
    if is_unsigned_in 0 greatest text then Some (digits_value 10 (without_leading_plus text)) else None

-- the number of an option, or another one if the option isn't given
abbrev pub number_or : ℕ → ℕ → Text → List Row → ℕ
number_or default greatest name given =
    unwrap_or (option_and_then (number_up_to greatest) (one_of name given)) default

-- what is given to a subcommand asks for these keys, in their order, and these sizes
abbrev pub GivesConfig : List Row → Config → Type 0
GivesConfig given config =
    (key_texts config.keys.items ≡ unwrap_or (all_of (codes "keys") given) [])
    × (config.parses ≡ number_or 256 4294967295 (codes "parses") given)
    × (config.evals ≡ number_or 1024 4294967295 (codes "evals") given)

-- what is given to `serve` asks for this port, so many rounds, these keys and these sizes; it is a fault of
-- usage to give no port, or no number of rounds
abbrev pub GivesServing : List Row → Serving → Type 0
GivesServing given serving =
    (serving.port ≡ number_or 1 65535 (codes "port") given)
    × (serving.rounds ≡ number_or 1 4294967295 (codes "turns") given)
    × GivesConfig given serving.config

-- what is given to `serve` asks for a service for clients, and for no replay
abbrev pub AsksToServe : List Row → Invocation → Type 0
AsksToServe given (Serve serving) = GivesServing given serving
AsksToServe given (Replay config) = ⊥

-- what is given to `replay` asks for a replay
abbrev pub AsksToReplay : List Row → Invocation → Type 0
AsksToReplay given (Serve serving) = ⊥
AsksToReplay given (Replay config) = GivesConfig given config

-- what a subcommand and what is given to it ask for; it is a fault of usage to name none, or another one
-- than `serve` and `replay`
abbrev pub SubcommandAsks : Option (Text × List Row) → Invocation → Type 0
SubcommandAsks (Some (name, given)) invocation =
    (name ≡ codes "serve" → AsksToServe given invocation) × ((name ≡ codes "serve" → ⊥) → AsksToReplay given invocation)
SubcommandAsks None invocation = AsksToReplay [] invocation

-- what the words ask for
abbrev pub AsksFor : List Text → Invocation → Type 0
AsksFor words invocation = SubcommandAsks (subcommand_of portsd words) invocation

-- help is printed, and nothing is said; or help can't be printed, and that is said
abbrev pub ShowsHelp : Option (List ℕ) → Option (List ℕ) → ℕ → Type 0
ShowsHelp unsaid said status =
    ((status ≡ 0) × Keeps unsaid said) ⊎ ((status ≡ 1) × AppendsUpTo unsaid said (failure_text CannotWrite))

-- How a run ends whose words ask for nothing that can be run. If memory ran out, that is said. If help was
-- asked for, it is printed. At a fault of usage nothing is printed on standard output.
abbrev pub EndsUnasked : ErrorKind → Option (List ℕ) → Option (List ℕ) → Option (List ℕ) → Option (List ℕ) → ℕ → Type 0
EndsUnasked errors.OutOfMemory held holds unsaid said status =
    (status ≡ 1) × Keeps held holds × AppendsUpTo unsaid said (failure_text (Memory refused))
EndsUnasked errors.DisplayHelp held holds unsaid said status = ShowsHelp unsaid said status
EndsUnasked errors.DisplayVersion held holds unsaid said status = ShowsHelp unsaid said status
EndsUnasked _ held holds unsaid said status = (status ≡ 2) × Keeps held holds

-- How a run ends that was asked for. A replay ends as its config finishes. A service for clients reads no
-- script, and ends as it finishes over wires that listen.
abbrev pub FinishesAsked : {W : Type 0} → (W → Call → W → Type 0) → (ℕ → W → Type 0) → Invocation → Streams
    → Option (List ℕ) → Option (List ℕ) → ℕ
    → Type 0
FinishesAsked After ListensOn (Replay config) streams unsaid said status = Finishes config streams unsaid said status
FinishesAsked After ListensOn (Serve serving) streams unsaid said status =
    Keeps streams.unread streams.left × FinishesServing After ListensOn serving streams.held streams.holds unsaid said status

-- How a run of these words ends. It ends as what they ask for finishes. Or the words have a fault or ask
-- for help, or memory runs out, and no script is read.
abbrev pub Runs : {W : Type 0} → (W → Call → W → Type 0) → (ℕ → W → Type 0) → List Text → Streams → Option (List ℕ) → Option (List ℕ) → ℕ
    → Type 0
Runs After ListensOn words streams unsaid said status =
    ((invocation : Invocation) × (fault_of portsd words ≡ []) × AsksFor words invocation
    × FinishesAsked After ListensOn invocation streams unsaid said status)
    ⊎ ((kind : ErrorKind) × ((kind ≡ errors.OutOfMemory) ⊎ IsAmong kind (fault_of portsd words))
    × Keeps streams.unread streams.left × EndsUnasked kind streams.held streams.holds unsaid said status)

-- what a stream holds before and after, by what tells its bytes
abbrev pub seen : {E : Type 0} → (E → Option (List ℕ)) → E → E → Option (List ℕ) × Option (List ℕ)
seen contents old new = (contents old, contents new)

-- the same of words as the system gives them, and of what is seen of standard error
abbrev pub RunsOver : {W Z : Type 0} → (W → Call → W → Type 0) → (ℕ → W → Type 0) → List (String Z) → Streams
    → Option (List ℕ) × Option (List ℕ) → ℕ → Type 0
RunsOver After ListensOn words streams errors status = Runs After ListensOn (map string_bytes words) streams errors.0 errors.1 status

-- the same, where the status is in what `main` returns
abbrev pub RunsMain : {W Z : Type 0} → (W → Call → W → Type 0) → (ℕ → W → Type 0) → List (String Z) → Streams
    → Option (List ℕ) × Option (List ℕ) → ExitCode → Type 0
RunsMain After ListensOn words streams errors code = RunsOver After ListensOn words streams errors (exit_status code)
