use Rattle.std.proofs.Common.{◌∙◌, ap, sym, map, string_bytes, if◌then◌else◌, option_map}
use Rattle.std.specs.BTreeSet.{contains_text}
use Rattle.port_index.specs.FilledRows.{is_one_of}
use Rattle.index_store.specs.Entries.{marked}
use Rattle.index_keep.proofs.ShownLemmas.{fresh-shown, shown-marked}
use Rattle.index_keep.proofs.refresh_start.begin.Goals as goal

pub returns-clause-known : goal.returns-clause-known
returns-clause-known g c = λ path.
    let entries = g.R.PathRows.entries c.args.rows.now in
    c.in_ok-known.ensures.known entries c.in_ok-stored.ensures.rows path ∙ sym (fresh-shown (contains_text c.args.changed.now) entries path)

pub returns-clause-marked : goal.returns-clause-marked
returns-clause-marked g c =
    let entries = g.R.PathRows.entries c.args.rows.now in
    let paths = map string_bytes c.deref.result.now in
    shown-marked (contains_text c.args.changed.now) paths entries (g.R.PathRows.entries c.mark.new.self)
    (λ path. ap (λ items. is_one_of path (map string_bytes items)) c.deref.ensures.value ∙ c.in_ok-known.ensures.outdated entries
    c.in_ok-stored.ensures.rows path)
    (λ path. c.in_ok-mark.ensures.ok path ∙ ap (λ stored. if is_one_of path paths then option_map marked stored else stored)
    (c.in_ok-stored.ensures.same path))
