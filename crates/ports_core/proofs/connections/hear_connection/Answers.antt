use Rattle.std.proofs.Common.{◌≡◌, rules, sym, ap, subst, ◌∙◌, true, None, Some, All, arith}
use Rattle.std.specs.Option.{option_copied_mut}
use Rattle.ports_core.specs.declared.connection.Connection.{Connection}
use Rattle.ports_core.specs.Connections.{is_ready}
use Rattle.ports_core.specs.Opened.{OpenAnd, connection_in}
use Rattle.ports_core.specs.Places.{HasPlace}
use Rattle.ports_core.proofs.OpenedLemmas.{is_eq-nat_cmp_other, hears_on}
use Rattle.ports_core.proofs.PlaceLemmas.{ready_after}
use Rattle.ports_core.proofs.connections.hear_connection.Goals as goal

-- a connection that is ready waits for nothing, so each tenant has a place
pub take_next-reply-requires-clause-places : goal.take_next-reply-requires-clause-places
take_next-reply-requires-clause-places c = λ ready.
    let P : Connection → Type 0 = λ connection. connection.waits ≡ None → All HasPlace c.args.queues.now in
    let at : connection_in c.args.conn c.args.connections.now.entries ≡ Some c.unwrap-connection.result.now = sym c.get_mut.ensures.value
    ∙ ap option_copied_mut c.unwrap-connection.ensures in
    let places : P c.unwrap-connection.result.now = subst (λ o. OpenAnd o P) at c.requires.places in
    places (ready_after c.args.event.now c.unwrap-connection.result.now
    (subst (λ (connection : Connection). is_ready connection ≡ true) c.hear.ensures ready))

pub returns-clause-count : goal.returns-clause-count
returns-clause-count c = let kept = (c.get_mut.follows.holds c.take_next-reply.new.connection).2
    in omega (arith, kept, c.close_done-closed.ensures.count)

pub returns-clause-hears : goal.returns-clause-hears
returns-clause-hears c =
    let writes = (c.get_mut.follows.holds c.take_next-reply.new.connection).3 (search rules) in
    hears_on _ c.args.event.now c.args.conn c.of.result _ _ _ _ _ c.take_next-reply.result c.unwrap-connection.result.now c.hear.new.self
    c.take_next-reply.new.connection
    (sym c.get_mut.ensures.value ∙ ap option_copied_mut c.unwrap-connection.ensures)
    c.hear.ensures c.take_next-reply.ensures writes.1 (λ d ne. writes.2 d (is_eq-nat_cmp_other c.args.conn d ne))
    c.of.ensures.reply c.of.ensures.refused (c.of.ensures.closed ∙ c.close_done-closed.ensures.closed)
    c.close_done-closed.ensures.connection c.close_done-closed.ensures.others
