-- What both tables show, together.
use Rattle.std.proofs.Common.{◌∙◌, ◌++◌, ap, sym, subst, map}
use Rattle.sql_facts.specs.States.{state_of}
use Rattle.index_store.specs.declared.statements.Part.TheVariants.{Earlier}
use Rattle.index_store.specs.Entries.{AreRowsOf, stored_seen}
use Rattle.index_store.specs.PortTable.{Rows, rows_of, entries_of, stored_by, stored_of, row_shown}
use Rattle.index_store.proofs.Keeping.{still_are}
use Rattle.index_store.proofs.Answering.{rows_together, rows_alone, rows_stored}
use Rattle.index_store.proofs.read_rows.read_rows.Goals as goal

pub returns-then-not-has_earlier-clause-rows : goal.returns-then-not-has_earlier-clause-rows
returns-then-not-has_earlier-clause-rows c =
    let shown = map row_shown c.in_ok-current.current.items in
    let items = c.in_ok-add_rows.ensures ∙ ap (λ these. map stored_seen these ++ shown) c.new-stored.ensures.items in
    let all = rows_alone (rows_of c.args.conn.now) shown (c.requires.earlier c.if-not-has_earlier.true) c.in_ok-current.ensures.rows in
    subst (AreRowsOf (stored_by (entries_of c.args.conn.now))) (sym items) (rows_stored (state_of c.args.conn.now).now.trees shown all)

pub returns-clause-rows : goal.returns-clause-rows
returns-clause-rows c =
    let current = map row_shown c.in_ok-current.current.items in
    let earlier = map row_shown c.in_ok-earlier.earlier.items in
    let same = still_are (state_of c.args.conn.now) (state_of c.all_rows.new.conn) c.in_ok-current.ensures.stays in
    let first = subst (λ (rows : Rows). AreRowsOf (stored_of (rows Earlier)) earlier) same c.in_ok-earlier.ensures.rows in
    let items = c.in_ok-add_rows-2.ensures ∙ ap (λ these. these ++ earlier)
    (c.in_ok-add_rows.ensures ∙ ap (λ these. map stored_seen these ++ current) c.new-stored.ensures.items) in
    let all = rows_together (rows_of c.args.conn.now) c.requires.kept.rows earlier current first c.in_ok-current.ensures.rows in
    subst (AreRowsOf (stored_by (entries_of c.args.conn.now))) (sym items)
    (rows_stored (state_of c.args.conn.now).now.trees (current ++ earlier) all)
