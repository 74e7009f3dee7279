use Rattle.std.proofs.Common.{sym, ◌∙◌}
use Rattle.ports_serve.proofs.Going.{is_empty_list, has_items, writes_no_event, writes_none, writes_nothing, writes_count, writes_fault}
use Rattle.ports_serve.proofs.rounds.write.Goals as goal

pub returns-then-is_empty : goal.returns-then-is_empty
returns-then-is_empty g c = writes_none g.W.Wire.after c.args.conn c.args.wire.now c.args.service.now
    (sym c.pending-pending.ensures ∙ is_empty_list c.pending-pending.result.now (sym c.is_empty.ensures ∙ c.if-is_empty.true))

pub returns-in-Nothing : goal.returns-in-Nothing
returns-in-Nothing g c =
    writes_nothing g.W.Wire.after c.args.conn c.pending-pending.result.now c.write.result c.args.wire.now
    c.write.new.self c.args.service.now
    c.pending-pending.ensures (has_items c.pending-pending.result.now (sym c.is_empty.ensures ∙ c.if-is_empty.false))
    (writes_no_event c.args.conn c.write.result c.in-Nothing.is) c.write.ensures.after

pub returns-in-Got : goal.returns-in-Got
returns-in-Got g c =
    writes_count g.W.Wire.after c.args.conn c.in-Got.count c.happen.result c.pending-pending.result.now c.args.wire.now c.write.new.self
    c.happen.new.wire c.args.service.now c.happen.new.service
    c.pending-pending.ensures (has_items c.pending-pending.result.now (sym c.is_empty.ensures ∙ c.if-is_empty.false))
    c.in-Got.ensures.after c.happen.ensures

pub returns-in-Fault : goal.returns-in-Fault
returns-in-Fault g c =
    writes_fault g.W.Wire.after c.args.conn c.happen-in-Fault.result c.pending-pending.result.now c.args.wire.now c.write.new.self
    c.happen-in-Fault.new.wire c.args.service.now c.happen-in-Fault.new.service
    c.pending-pending.ensures (has_items c.pending-pending.result.now (sym c.is_empty.ensures ∙ c.if-is_empty.false))
    c.in-Fault.ensures.after c.happen-in-Fault.ensures
