-- A text that is as long without its blanks has none at its ends.
use Rattle.std.proofs.Common.{length, sym, ap, subst, ◌≡◌, ◌∙◌}
use Rattle.mk_text.specs.Blanks.{trim_blanks}
use Rattle.mk_text.proofs.BlankEnds.{trim_same}
use Rattle.mk_text.proofs.lines.trimmed.Goals as goal

pub returns-then-kept-whole : goal.returns-then-kept-whole
returns-then-kept-whole c =
    let as_long = sym (ap length c.trim_blanks-kept.ensures) ∙ c.if-kept-whole.true in
    subst (λ text. text ≡ trim_blanks text) c.as_str-whole.ensures.value (sym (trim_same c.as_str-whole.result.now as_long))
