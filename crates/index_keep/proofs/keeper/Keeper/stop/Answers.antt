-- The same rows are shown, and no walk is under way.
use Rattle.index_keep.proofs.KeepLemmas.{IsKept-halted, shown-halted}
use Rattle.index_keep.proofs.keeper.Keeper.stop.Goals as goal

pub returns-clause-rows : goal.returns-clause-rows
returns-clause-rows g c = shown-halted (g.R.PathRows.entries c.args.self.now.rows) c.args.self.now.progress c.halt.new.self c.halt.ensures

pub returns-clause-kept : goal.returns-clause-kept
returns-clause-kept g c = λ world kept.
    IsKept-halted g.R.PathRows.entries world c.args.self.now.rows c.args.self.now.progress c.halt.new.self c.halt.ensures kept
