-- The rows are current, so that all that they say is fresh.
use Rattle.std.proofs.Common.{◌∙◌}
use Rattle.index_keep.specs.Shown.{no_name, shown, ShowsSame}
use Rattle.index_keep.proofs.KeepLemmas.{AreKept-same}
use Rattle.index_keep.proofs.ShownLemmas.{shown-same}
use Rattle.index_keep.proofs.WalkLemmas.{AreCurrent-same, have-said, said-same, says-current}
use Rattle.index_keep.proofs.keeper.Keeper.read_index.Goals as goal

pub returns-in-Ok-clause-kept : goal.returns-in-Ok-clause-kept
returns-in-Ok-clause-kept g c = λ world kept.
    let old = shown no_name (g.R.PathRows.entries c.args.self.now.rows) in
    let new = shown no_name (g.R.PathRows.entries c.fresh_rows.new.rows) in
    let shows : ShowsSame old new = shown-same no_name (g.R.PathRows.entries c.args.self.now.rows)
    (g.R.PathRows.entries c.fresh_rows.new.rows) c.fresh_rows.ensures.same in
    let current = AreCurrent-same world old new shows kept.progress.0 in
    let says = says-current world new current c.in-Ok.rows (λ path. c.in-Ok.ensures.known path ∙ said-same old new shows path) in
    record {
      rows = AreKept-same world old new shows kept.rows;
      progress = (current, record { paths = kept.progress.1; rows = have-said world new current c.in-Ok.rows says; edges = tt }, says);
    }
