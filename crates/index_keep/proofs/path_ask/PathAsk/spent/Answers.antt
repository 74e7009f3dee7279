use Rattle.index_keep.proofs.MadeLemmas.{within-path}
use Rattle.index_keep.proofs.path_ask.PathAsk.spent.Goals as goal

pub returns-clause-within : goal.returns-clause-within
returns-clause-within c = λ world path is. within-path world path c.args.self.now is c.spent.result.units c.spent.ensures.within
