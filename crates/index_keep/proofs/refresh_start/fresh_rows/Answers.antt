use Rattle.std.proofs.Common.{◌∙◌, ap, sym, option_and_then}
use Rattle.std.specs.BTreeSet.{contains_text}
use Rattle.index_keep.specs.Shown.{no_name, said_if_fresh}
use Rattle.index_keep.proofs.KeepLemmas.{none_among}
use Rattle.index_keep.proofs.ShownLemmas.{fresh-shown, shown-test}
use Rattle.index_keep.proofs.refresh_start.fresh_rows.Goals as goal

pub returns-clause-known : goal.returns-clause-known
returns-clause-known g c = λ path.
    let entries = g.R.PathRows.entries c.args.rows.now in
    let none = contains_text c.new-changed.result in
    c.in_ok-sort.ensures.known entries c.in_ok-stored.ensures.rows path ∙ sym (fresh-shown none entries path)
    ∙ ap (option_and_then said_if_fresh)
    (shown-test none no_name entries (none_among c.new-changed.result c.new-changed.ensures.empty) path)
