use Rattle.std.proofs.Common.{◌∙◌, ap, codes, refl, arith}
use Rattle.std.specs.Prelude.{option_and_then, unwrap_or}
use Rattle.std.specs.Str.Parse.{ParsesUnsigned, ExplainsUnsignedError, HasUnsignedDigitsIfOk}
use Rattle.clap.specs.Words.{found_of, one_text}
use Rattle.clap.proofs.WalkLemmas.{one_text-rows}
use Rattle.portsd_run.specs.CommandLine.{number_up_to}
use Rattle.portsd_run.proofs.CommandFacts.{number_given}
use Rattle.portsd_run.proofs.command_line.serving_given.Goals as goal

pub returns : goal.returns
returns c =
    let found = found_of c.args.given.now in (
      c.unwrap_or.ensures
          ∙ number_given _ (λ bs r. ParsesUnsigned 16 10 bs r × ExplainsUnsignedError 10 bs r × HasUnsignedDigitsIfOk bs r) 16 65535
          (one_text found (codes "port")) c.get_one.result 1 (refl, omega arith) (λ u x g. g.0)
          c.get_one.ensures.none c.get_one.ensures.value
          ∙ ap (λ text. unwrap_or (option_and_then (number_up_to 65535) text) 1) (one_text-rows found (codes "port")),
      c.unwrap_or-2.ensures
          ∙ number_given _ (λ bs r. ParsesUnsigned 32 10 bs r × ExplainsUnsignedError 10 bs r × HasUnsignedDigitsIfOk bs r) 32 4294967295
          (one_text found (codes "turns")) c.get_one-2.result 1 (refl, omega arith) (λ u x g. g.0) c.get_one-2.ensures.none
          c.get_one-2.ensures.value
          ∙ ap (λ text. unwrap_or (option_and_then (number_up_to 4294967295) text) 1) (one_text-rows found (codes "turns")),
      c.in_ok-config_given.ensures,
    )
