-- If the rows fail, the same ones are stored.
use Rattle.index_keep.proofs.KeepLemmas.{IsKept-same}
use Rattle.index_keep.proofs.keeper.Keeper.note_path.Goals as goal

pub returns-in_err-mark_all-clause-kept : goal.returns-in_err-mark_all-clause-kept
returns-in_err-mark_all-clause-kept g c = λ world kept.
    IsKept-same g.R.PathRows.entries world c.args.self.now.rows c.mark_all.new.self c.args.self.now.progress
    c.in_err-mark_all.ensures.err kept
