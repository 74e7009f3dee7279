use Rattle.std.proofs.Common.{◌∙◌, sym, ap}
use Rattle.std.specs.List.{position}
use Rattle.std.proofs.lemmas.List.Quantifiers.{position-Some}
use Rattle.mk_text.specs.Blanks.{is_blank}
use Rattle.mk_cond.proofs.forms.parted.Goals as goal

pub cut_at-requires-clause-blank : goal.cut_at-requires-clause-blank
cut_at-requires-clause-blank c =
    (position-Some is_blank c.args.text.now c.in-Some.at 0 (ap (position is_blank) (sym c.as_bytes.ensures.value)
    ∙ sym c.first_blank.ensures ∙ c.in-Some.is)).1
