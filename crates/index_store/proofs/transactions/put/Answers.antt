-- The row is put, and that of the release before goes.
use Rattle.std.proofs.Common.{◌∙◌, ap, sym, refl, Some}
use Rattle.mk_text.specs.Profiles.{profile_number}
use Rattle.sql_facts.specs.States.{state_of}
use Rattle.sql_facts.proofs.Ending.{ok_then}
use Rattle.index_store.specs.declared.statements.Part.TheVariants.{Earlier, Current}
use Rattle.index_store.specs.declared.transactions.Change.TheVariants.{Put}
use Rattle.index_store.specs.Marks.{rows_after}
use Rattle.index_store.specs.PortTable.{Rows, rows_of, with_rows, with_row, without}
use Rattle.index_store.proofs.Changing.{by_part}
use Rattle.index_store.proofs.Composing.{holds_as}
use Rattle.index_store.proofs.Settling.{after_allowed}
use Rattle.index_store.proofs.transactions.put.Goals as goal

pub returns-then-not-has_earlier-clause-made : goal.returns-then-not-has_earlier-clause-made
returns-then-not-has_earlier-clause-made c =
    let was = rows_of c.args.tx.now.conn.now in
    let row = with_row c.args.path.now (Some (profile_number c.args.profile)) c.args.text.now in
    let change = Put c.args.is_new c.args.path c.args.profile c.args.text in
    let off = c.if-not-has_earlier.true in
    let none = after_allowed c.args.has_earlier change was c.requires.free c.requires.earlier off in
    holds_as (state_of c.put_current.new.tx.conn.now) (with_rows Current (row (was Current)) was) (rows_after change was)
    (by_part _ _ (c.requires.earlier off ∙ sym none) refl) c.in_ok-put_current.ensures.made

pub returns-clause-made : goal.returns-clause-made
returns-clause-made c =
    let was = rows_of c.args.tx.now.conn.now in
    let mid = rows_of c.put_current.new.tx.conn.now in
    let are = c.in_ok-put_current.ensures.made.are in
    let path = c.args.path.now in
    let change = Put c.args.is_new c.args.path c.args.profile c.args.text in
    ok_then c.take_earlier.result (holds_as (state_of c.take_earlier.new.tx.conn.now) (with_rows Earlier (without path (mid Earlier)) mid)
    (rows_after change was)
    (by_part _ _ (ap (λ (rows : Rows). without path (rows Earlier)) are) (ap (λ (rows : Rows). rows Current) are)))
    c.take_earlier.ensures.made
