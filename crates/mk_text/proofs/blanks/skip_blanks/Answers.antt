use Rattle.mk_text.proofs.BlankEnds.{skip_trimmed}
use Rattle.mk_text.proofs.blanks.skip_blanks.Goals as goal

pub returns : goal.returns
returns c = skip_trimmed c.args.text.now c.trim_start_matches.result.now c.trim_start_matches.ensures.matches
