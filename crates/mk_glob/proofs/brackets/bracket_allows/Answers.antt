use Rattle.std.proofs.Common.{sym, subst}
use Rattle.mk_glob.specs.Brackets.{TestsBracket}
use Rattle.mk_glob.proofs.BracketLemmas.{TestsBracket-empty}
use Rattle.mk_glob.proofs.brackets.bracket_allows.Goals as goal

pub returns-in_err-sign : goal.returns-in_err-sign
returns-in_err-sign c =
    subst (TestsBracket c.args.body.now c.args.c) (sym c.from_residual.ensures)
    (TestsBracket-empty c.args.body.now c.args.c c.in_err-sign.ensures)
