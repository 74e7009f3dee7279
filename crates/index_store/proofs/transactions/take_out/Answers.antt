-- The rows get their mark, and go.
use Rattle.std.proofs.Common.{◌∙◌, ap, map, string_bytes}
use Rattle.sql_facts.specs.States.{state_of}
use Rattle.sql_facts.proofs.Ending.{ok_then}
use Rattle.index_store.specs.declared.statements.Part.TheVariants.{Earlier}
use Rattle.index_store.specs.declared.transactions.Change.TheVariants.{TakeOut}
use Rattle.index_store.specs.Marks.{rows_after}
use Rattle.index_store.specs.PortTable.{Rows, rows_of, leaving_mark, marked_among, staying_of}
use Rattle.index_store.proofs.Composing.{each_of, holds_as, none_among}
use Rattle.index_store.proofs.transactions.take_out.Goals as goal

pub take_leaving-requires-clause-earlier : goal.take_leaving-requires-clause-earlier
take_leaving-requires-clause-earlier c off =
    let paths = map string_bytes c.args.paths.now in
    ap (λ (rows : Rows). rows Earlier) c.in_ok-set_marks.ensures.made.are ∙ ap (marked_among leaving_mark paths) (c.requires.earlier off)
    ∙ none_among leaving_mark paths

pub returns-clause-made : goal.returns-clause-made
returns-clause-made c =
    let was = rows_of c.args.tx.now.conn.now in
    let mid = rows_of c.set_marks.new.tx.conn.now in
    ok_then c.take_leaving.result (holds_as (state_of c.take_leaving.new.tx.conn.now) (each_of staying_of mid)
    (rows_after (TakeOut c.args.paths) was)
    (ap (each_of staying_of) c.in_ok-set_marks.ensures.made.are)) c.take_leaving.ensures.made
