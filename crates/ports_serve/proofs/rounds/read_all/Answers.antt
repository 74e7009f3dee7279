use Rattle.std.proofs.Common.{get_or, ◌∙◌}
use Rattle.ports_core.specs.State.{connections_of}
use Rattle.ports_serve.specs.Rounds.{ReadsOnce, Each}
use Rattle.ports_serve.proofs.Going.{next_item, no_item, begins, item_then, goes_through, none_left, ends}
use Rattle.ports_serve.proofs.rounds.read_all.Goals as goal

pub loop-conn-init : goal.loop-conn-init
loop-conn-init g c = record {
  going = begins g.W.Wire.after (Each ReadsOnce (connections_of c.args.service.now)) c.args.wire.now
      c.args.service.now;
  buffer = c.requires;
}

pub loop-conn-preserved : goal.loop-conn-preserved
loop-conn-preserved g c = record {
  going =
      goes_through g.W.Wire.after c.loop-conn.heard c.read-left.result.1 c.args.wire.now c.loop-conn.wire c.read-left.new.wire
      c.args.service.now c.loop-conn.service c.read-left.new.service
      (item_then ReadsOnce (get_or c.as_slice-conn-items.result.now c.loop-conn.conn-index 0) c.loop-conn.service c.read-left.new.service
      (next_item (connections_of c.args.service.now) c.as_slice-conn-items.result.now c.loop-conn.conn-index
      (c.as_slice-conn-items.ensures.value ∙ c.connections-open.ensures) c.loop-conn-test.true))
      c.loop-conn.invariant.going c.read-left.ensures.goes;
  buffer = c.read-left.ensures.buffer;
}

pub returns-clause-goes : goal.returns-clause-goes
returns-clause-goes g c =
    ends g.W.Wire.after c.loop-conn.heard c.args.wire.now c.loop-conn.wire c.args.service.now c.loop-conn.service
    (none_left ReadsOnce c.loop-conn.service (no_item (connections_of c.args.service.now) c.as_slice-conn-items.result.now
    c.loop-conn.conn-index (c.as_slice-conn-items.ensures.value ∙ c.connections-open.ensures) c.loop-conn-test.false))
    c.loop-conn.invariant.going
