-- The row is added where there is none, or replaced.
use Rattle.std.proofs.Common.{◌∙◌, ap, sym, Some}
use Rattle.mk_text.specs.Profiles.{profile_number}
use Rattle.sql_facts.specs.States.{state_of}
use Rattle.sql_facts.proofs.Ending.{ok_then}
use Rattle.index_store.specs.PortTable.{Rows, ByPath, rows_of, with_row, with_rows}
use Rattle.index_store.specs.declared.statements.Part.TheVariants.{Earlier, Current}
use Rattle.index_store.proofs.Changing.{by_part}
use Rattle.index_store.proofs.Composing.{holds_as, replaced_there, none_replaced, none_there}
use Rattle.index_store.proofs.transactions.put_current.Goals as goal

pub returns-then-branch-clause-made : goal.returns-then-branch-clause-made
returns-then-branch-clause-made c =
    let was = rows_of c.args.tx.now.conn.now in
    let there = sym c.in_ok-replace_current.ensures.was_there ∙ c.if-branch.true in
    let same = replaced_there c.args.path.now (Some (profile_number c.args.profile)) c.args.text.now (was Current) there in
    holds_as (state_of c.replace_current.new.tx.conn.now) _ _ (ap (λ (rows : ByPath). with_rows Current rows was) same)
    c.in_ok-replace_current.ensures.made

pub insert_current-requires-2-clause-free : goal.insert_current-requires-2-clause-free
insert_current-requires-2-clause-free c =
    let was = rows_of c.args.tx.now.conn.now in
    let absent = sym c.in_ok-replace_current.ensures.was_there ∙ c.if-branch.false in
    let same = none_replaced c.args.path.now (Some (profile_number c.args.profile)) c.args.text.now (was Current) absent in
    ap (λ (rows : Rows). rows Current c.args.path.now) c.in_ok-replace_current.ensures.made.are
    ∙ ap (λ (rows : ByPath). rows c.args.path.now) same ∙ none_there _ absent

pub returns-clause-made : goal.returns-clause-made
returns-clause-made c =
    let was = rows_of c.args.tx.now.conn.now in
    let mid = rows_of c.replace_current.new.tx.conn.now in
    let absent = sym c.in_ok-replace_current.ensures.was_there ∙ c.if-branch.false in
    let row = with_row c.args.path.now (Some (profile_number c.args.profile)) c.args.text.now in
    let are = c.in_ok-replace_current.ensures.made.are in
    let same = none_replaced c.args.path.now (Some (profile_number c.args.profile)) c.args.text.now (was Current) absent in
    ok_then c.insert_current-2.result (holds_as (state_of c.insert_current-2.new.tx.conn.now) (with_rows Current (row (mid Current)) mid)
    (with_rows Current (row (was Current)) was)
    (by_part _ _ (ap (λ (rows : Rows). rows Earlier) are) (ap (λ (rows : Rows). row (rows Current)) are ∙ ap row same)))
    c.insert_current-2.ensures.made
