use Rattle.std.proofs.Common.{◌∙◌, ◌==◌, length, sym, ap, arith}
use Rattle.mk_step.proofs.Blanks.{blank-is, other-isn't, command-isn't}
use Rattle.mk_step.proofs.blank_lines.is_blank_line.Goals as goal

pub returns-then-not-starts_with-clause-blank : goal.returns-then-not-starts_with-clause-blank
returns-then-not-starts_with-clause-blank c = λ is.
    blank-is c.args.text.now (sym (c.starts_with.ensures.byte (omega arith) (omega arith) (λ w o finds. finds)) ∙ c.if-not-starts_with.true)
    (ap (λ trimmed. length trimmed == 0) (sym c.trim_blanks.ensures) ∙ sym c.is_empty.ensures ∙ is)

pub returns-then-not-starts_with-clause-other : goal.returns-then-not-starts_with-clause-other
returns-then-not-starts_with-clause-other c = λ is.
    other-isn't c.args.text.now (ap (λ trimmed. length trimmed == 0) (sym c.trim_blanks.ensures) ∙ sym c.is_empty.ensures ∙ is)

pub returns-else-not-starts_with-clause-other : goal.returns-else-not-starts_with-clause-other
returns-else-not-starts_with-clause-other c = λ is.
    command-isn't c.args.text.now (sym (c.starts_with.ensures.byte (omega arith) (omega arith) (λ w o finds. finds))
    ∙ c.if-not-starts_with.false)
