use Rattle.std.proofs.Common.{◌∙◌, ap, sym}
use Rattle.index_keep.specs.declared.keeper.Progress.{Progress}
use Rattle.index_keep.specs.Shown.{shown, no_name}
use Rattle.index_keep.specs.Keeper.{changed_in}
use Rattle.index_keep.proofs.KeepLemmas.{forgotten}
use Rattle.index_keep.proofs.ShownLemmas.{shown-test}
use Rattle.index_keep.proofs.keeper.Keeper.write_marks.Goals as goal

pub returns-in_ok-_known-clause-rows : goal.returns-in_ok-_known-clause-rows
returns-in_ok-_known-clause-rows g c = λ path.
    let old = g.R.PathRows.entries c.args.self.now.rows in
    shown-test (changed_in c.nothing.result) no_name (g.R.PathRows.entries c.begin.new.rows)
    (forgotten c.nothing.result c.nothing.ensures) path
    ∙ c.in_ok-_known.ensures.marked path
    ∙ sym (ap (λ (progress : Progress). shown (changed_in progress) old path) c.in-Changed.is)
