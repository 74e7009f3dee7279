use Rattle.std.proofs.Common.{None, Some, sym, ap, lit<, ◌∙◌}
use Rattle.std.proofs.lemmas.Str.Pattern.{strip_suffix_char}
use Rattle.mk_text.specs.Lines.{unmarked}
use Rattle.mk_text.proofs.Marks.{goes_on-plain, unmarked-marked, unmarked-plain}
use Rattle.mk_text.proofs.lines.unmarked.Goals as goal

pub returns-in-None : goal.returns-in-None
returns-in-None c =
    let s = c.args.piece.now in
    sym (unmarked-plain s (goes_on-plain s (strip_suffix_char 92 s None c.in-None.ensures.cases (lit< tt))))

pub returns-in-Some : goal.returns-in-Some
returns-in-Some c =
    let s = c.args.piece.now in
    sym (ap unmarked (strip_suffix_char 92 s (Some c.in-Some.kept) c.in-Some.ensures.cases (lit< tt)) ∙ unmarked-marked c.in-Some.kept.now)
