use Rattle.std.proofs.Common.{length, sym, ◌∙◌}
use Rattle.std.proofs.lemmas.Bool.{leb-true}
use Rattle.mk_text.specs.declared.limits.TheConstants.{TEXT_LIMIT}
use Rattle.mk_env.proofs.ExpansionSteps.{text_meaning-small}
use Rattle.mk_env.proofs.bounded_texts.means_itself.Goals as goal

pub returns-then-not-has_dollar : goal.returns-then-not-has_dollar
returns-then-not-has_dollar c =
    λ small references m. text_meaning-small references c.args.text.now m (sym c.has_dollar.ensures ∙ c.if-not-has_dollar.true)
    (leb-true (length c.args.text.now) TEXT_LIMIT small)
