use Rattle.std.proofs.Common.{ap, reverse, ◌∙◌}
use Rattle.mk_text.specs.Blanks.{skip_blanks, trim_blanks}
use Rattle.mk_text.proofs.BlankEnds.{back_trimmed}
use Rattle.mk_text.proofs.blanks.trim_blanks.Goals as goal

pub returns : goal.returns
unfolding trim_blanks
returns c =
    back_trimmed c.skip_blanks.result.now c.trim_end_matches.result.now c.trim_end_matches.ensures.matches
    ∙ ap (λ l. reverse (skip_blanks (reverse l))) c.skip_blanks.ensures
