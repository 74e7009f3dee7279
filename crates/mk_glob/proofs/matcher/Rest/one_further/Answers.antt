use Rattle.mk_glob.proofs.SignLemmas.{chars-empty}
use Rattle.mk_glob.proofs.matcher.Rest.one_further.Goals as goal

pub returns-in-None : goal.returns-in-None
returns-in-None c = chars-empty c.args.self.word.now c.in-None.ensures
