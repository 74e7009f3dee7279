use Rattle.std.proofs.Common.{get_or, ◌∙◌}
use Rattle.ports_core.specs.State.{connections_of}
use Rattle.ports_serve.specs.Rounds.{Writes, Each}
use Rattle.ports_serve.proofs.Going.{next_item, no_item, begins, item_then, goes_through, none_left, ends}
use Rattle.ports_serve.proofs.rounds.write_all.Goals as goal

pub loop-conn-init : goal.loop-conn-init
loop-conn-init g c = begins g.W.Wire.after (Each Writes (connections_of c.args.service.now)) c.args.wire.now c.args.service.now

pub loop-conn-preserved : goal.loop-conn-preserved
loop-conn-preserved g c =
    goes_through g.W.Wire.after c.loop-conn.written c.write-taken.result c.args.wire.now c.loop-conn.wire c.write-taken.new.wire
    c.args.service.now c.loop-conn.service c.write-taken.new.service
    (item_then Writes (get_or c.as_slice-conn-items.result.now c.loop-conn.conn-index 0) c.loop-conn.service c.write-taken.new.service
    (next_item (connections_of c.args.service.now) c.as_slice-conn-items.result.now c.loop-conn.conn-index
    (c.as_slice-conn-items.ensures.value ∙ c.connections-open.ensures) c.loop-conn-test.true))
    c.loop-conn.invariant c.write-taken.ensures

pub returns : goal.returns
returns g c =
    ends g.W.Wire.after c.loop-conn.written c.args.wire.now c.loop-conn.wire c.args.service.now c.loop-conn.service
    (none_left Writes c.loop-conn.service (no_item (connections_of c.args.service.now) c.as_slice-conn-items.result.now
    c.loop-conn.conn-index (c.as_slice-conn-items.ensures.value ∙ c.connections-open.ensures) c.loop-conn-test.false))
    c.loop-conn.invariant
