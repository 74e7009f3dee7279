use Rattle.std.proofs.Common.{◌+◌, Some, sym, ap, ◌∙◌}
use Rattle.std.proofs.lemmas.Result.{IfOk-weaker}
use Rattle.mk_ref.specs.declared.opening.Opening.TheVariants.{Doubled, Letter}
use Rattle.mk_ref.specs.Ends.{EndsAt, AtomEndsAt}
use Rattle.mk_ref.proofs.ScanSteps.{two_dollars, dollar_letter, atom-byte, atom-two, atom-marked}
use Rattle.mk_ref.proofs.ends.after_atom.Goals as goal

pub returns-in-Some-Marked : goal.returns-in-Some-Marked
returns-in-Some-Marked c =
    IfOk-weaker c.after_mark.result (EndsAt c.args.bytes.now (c.args.at + 2) c.in-Some-Marked.closing)
    (AtomEndsAt c.args.bytes.now c.args.at)
    (atom-marked c.args.bytes.now c.args.at c.in-Some-Marked.closing (sym c.in-Some-Marked.ensures.opening
    ∙ ap Some c.in-Some-Marked.field-0-is))
    c.after_mark.ensures

pub returns-in-Some-Doubled : goal.returns-in-Some-Doubled
returns-in-Some-Doubled c =
    atom-two c.args.bytes.now c.args.at Doubled two_dollars c.in-Some-Doubled.ensures.inside (sym c.in-Some-Doubled.ensures.opening
    ∙ ap Some c.in-Some-Doubled.field-0-is)

pub returns-in-Some-Letter : goal.returns-in-Some-Letter
returns-in-Some-Letter c =
    atom-two c.args.bytes.now c.args.at Letter dollar_letter c.in-Some-Letter.ensures.inside (sym c.in-Some-Letter.ensures.opening
    ∙ ap Some c.in-Some-Letter.field-0-is)

pub returns-in-None : goal.returns-in-None
returns-in-None c = atom-byte c.args.bytes.now c.args.at c.requires (sym c.in-None.ensures.opening)
