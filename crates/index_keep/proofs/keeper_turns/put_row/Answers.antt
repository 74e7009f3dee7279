use Rattle.std.proofs.Common.{◌∙◌, ap, subst, sym, string_bytes}
use Rattle.index_row.specs.Rows.{row_of}
use Rattle.index_row.specs.Seen.{kept_row_seen}
use Rattle.index_store.specs.Entries.{PutsRow}
use Rattle.index_keep.specs.Shown.{said_by}
use Rattle.index_keep.specs.Walk.{HasRowMore}
use Rattle.index_keep.proofs.RowLemmas.{shown-put}
use Rattle.index_keep.proofs.keeper_turns.put_row.Goals as goal

pub returns-clause-rows : goal.returns-clause-rows
returns-clause-rows g c =
    let old = g.R.PathRows.entries c.args.rows.now in
    let new = g.R.PathRows.entries c.put.new.self in
    shown-put (string_bytes c.args.path) (kept_row_seen c.args.row) c.deref.result.now (ap row_of c.deref.ensures.value
    ∙ c.in_ok-text.ensures) old new
    (subst (λ path. PutsRow path c.deref.result.now old new) c.as_str-2.ensures.value c.in_ok-put.ensures.ok)

pub returns-clause-walk : goal.returns-clause-walk
returns-clause-walk g c = λ world old new far more.
    c.in_ok-walk.ensures world old new far
    (subst (λ said. HasRowMore world (string_bytes c.in_ok-key.key) said old new) (sym c.known_row.ensures)
    (subst (λ path. HasRowMore world path (said_by (kept_row_seen c.args.row)) old new)
    (sym (c.in_ok-key.ensures.ok ∙ c.as_str.ensures.value)) more))
