-- The same rows are stored.
use Rattle.index_keep.proofs.KeepLemmas.{IsKept-same}
use Rattle.index_keep.proofs.keeper.Keeper.limit_steps.Goals as goal

pub returns-clause-kept : goal.returns-clause-kept
returns-clause-kept g c = λ world kept.
    IsKept-same g.R.PathRows.entries world c.args.self.now.rows c.limit_steps.new.self c.args.self.now.progress
    c.limit_steps.ensures.same kept
