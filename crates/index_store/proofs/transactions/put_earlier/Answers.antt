-- The row there goes, and this one is added.
use Rattle.std.proofs.Common.{◌∙◌, ap, None}
use Rattle.sql_facts.specs.States.{state_of}
use Rattle.sql_facts.proofs.Ending.{ok_then}
use Rattle.index_store.specs.declared.statements.Part.TheVariants.{Earlier, Current}
use Rattle.index_store.specs.declared.transactions.Change.TheVariants.{PutEarlier}
use Rattle.index_store.specs.Marks.{rows_after}
use Rattle.index_store.specs.PortTable.{Rows, rows_of, with_rows, with_row, marked_at, staying_of, leaving_mark}
use Rattle.index_store.proofs.Changing.{by_part}
use Rattle.index_store.proofs.Composing.{each_of, holds_as, gone, none_marked}
use Rattle.index_store.proofs.transactions.put_earlier.Goals as goal

pub take_leaving-requires-clause-earlier : goal.take_leaving-requires-clause-earlier
take_leaving-requires-clause-earlier c off =
    ap (λ (rows : Rows). rows Earlier) c.in_ok-mark_path.ensures.made.are
    ∙ ap (marked_at leaving_mark c.args.path.now) (c.requires.earlier off) ∙ none_marked leaving_mark c.args.path.now

pub insert_earlier-requires-clause-free : goal.insert_earlier-requires-clause-free
insert_earlier-requires-clause-free c =
    let was = rows_of c.args.tx.now.conn.now in
    let left = c.in_ok-take_leaving.ensures.made.are ∙ ap (each_of staying_of) c.in_ok-mark_path.ensures.made.are in
    ap (λ (rows : Rows). rows Earlier c.args.path.now) left ∙ gone c.args.path.now (was Earlier)

pub returns-clause-made : goal.returns-clause-made
returns-clause-made c =
    let was = rows_of c.args.tx.now.conn.now in
    let mid = rows_of c.take_leaving.new.tx.conn.now in
    let row = with_row c.args.path.now None c.args.text.now in
    let left = c.in_ok-take_leaving.ensures.made.are ∙ ap (each_of staying_of) c.in_ok-mark_path.ensures.made.are in
    ok_then c.insert_earlier.result (holds_as (state_of c.insert_earlier.new.tx.conn.now) (with_rows Earlier (row (mid Earlier)) mid)
    (rows_after (PutEarlier c.args.path c.args.text) was)
    (by_part _ _ (ap (λ (rows : Rows). row (rows Earlier)) left) (ap (λ (rows : Rows). rows Current) left))) c.insert_earlier.ensures.made
