use Rattle.std.proofs.Common.{◌∙◌, map, ap, codes, refl, arith, []}
use Rattle.std.specs.Prelude.{option_and_then, unwrap_or}
use Rattle.std.specs.Str.Parse.{ParsesUnsigned, ExplainsUnsignedError, HasUnsignedDigitsIfOk}
use Rattle.clap.specs.Words.{found_of, one_text}
use Rattle.clap.proofs.WalkLemmas.{one_text-rows, raw_values-rows}
use Rattle.portsd_run.specs.CommandLine.{number_up_to}
use Rattle.portsd_run.proofs.CommandFacts.{made_or, number_given}
use Rattle.portsd_run.proofs.command_line.config_given.Goals as goal

pub returns : goal.returns
returns c =
    let found = found_of c.args.given.now in (
      c.in_ok-copies_of.ensures
          ∙ ap (λ s. map (λ v. v.now) s.now) c.unwrap_or.ensures
          ∙ made_or (λ s. map (λ v. v.now) s.now) c.get_strs.result _ [] _ (c.get_strs.ensures ∙ raw_values-rows found (codes "keys")) refl,
      c.unwrap_or-2.ensures
          ∙ number_given _ (λ bs r. ParsesUnsigned 32 10 bs r × ExplainsUnsignedError 10 bs r × HasUnsignedDigitsIfOk bs r) 32 4294967295
          (one_text found (codes "parses")) c.get_one.result 256 (refl, omega arith) (λ u x g. g.0)
          c.get_one.ensures.none c.get_one.ensures.value
          ∙ ap (λ text. unwrap_or (option_and_then (number_up_to 4294967295) text) 256) (one_text-rows found (codes "parses")),
      c.unwrap_or-3.ensures
          ∙ number_given _ (λ bs r. ParsesUnsigned 32 10 bs r × ExplainsUnsignedError 10 bs r × HasUnsignedDigitsIfOk bs r) 32 4294967295
          (one_text found (codes "evals")) c.get_one-2.result 1024 (refl, omega arith) (λ u x g. g.0) c.get_one-2.ensures.none
          c.get_one-2.ensures.value
          ∙ ap (λ text. unwrap_or (option_and_then (number_up_to 4294967295) text) 1024) (one_text-rows found (codes "evals")),
    )
