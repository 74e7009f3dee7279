use Rattle.std.proofs.Common.{◌≡◌, ◌<◌, arith, take, min}
use Rattle.ports_core.specs.State.{room_at}
use Rattle.ports_serve.specs.Rounds.{most_at_once}
use Rattle.ports_serve.proofs.Going.{reads_none, reads_nothing, reads_piece, reads_end, reads_fault}
use Rattle.ports_serve.proofs.rounds.read.Goals as goal

pub returns-then-size-eq0-clause-goes : goal.returns-then-size-eq0-clause-goes
returns-then-size-eq0-clause-goes g c =
    reads_none g.W.Wire.after c.args.conn c.args.wire.now c.args.service.now
    (omega (arith, c.if-size-eq0.true, c.min-size.ensures, c.room.ensures))

pub returns-in-Nothing-clause-goes : goal.returns-in-Nothing-clause-goes
returns-in-Nothing-clause-goes g c =
    let room : 0 < room_at c.args.conn c.args.service.now = omega (arith, c.if-size-eq0.false, c.min-size.ensures, c.room.ensures) in
    let size : c.min-size.result ≡ min (room_at c.args.conn c.args.service.now) most_at_once =
    omega (arith, c.min-size.ensures, c.room.ensures) in
    reads_nothing g.W.Wire.after c.args.conn c.min-size.result c.args.wire.now c.fill.new.wire c.args.service.now room size
    c.in-Nothing.ensures.after

pub returns-in-Got-clause-goes : goal.returns-in-Got-clause-goes
returns-in-Got-clause-goes g c =
    let room : 0 < room_at c.args.conn c.args.service.now = omega (arith, c.if-size-eq0.false, c.min-size.ensures, c.room.ensures) in
    let size : c.min-size.result ≡ min (room_at c.args.conn c.args.service.now) most_at_once =
    omega (arith, c.min-size.ensures, c.room.ensures) in
    reads_piece g.W.Wire.after c.args.conn c.min-size.result c.take_piece.result.1 (take c.in-Got.count c.fill.new.buffer.items)
    c.args.wire.now c.fill.new.wire c.take_piece.new.wire c.args.service.now c.take_piece.new.service
    room size c.in-Got.ensures.after c.take_piece.ensures.goes

pub returns-in-End-clause-goes : goal.returns-in-End-clause-goes
returns-in-End-clause-goes g c =
    let room : 0 < room_at c.args.conn c.args.service.now = omega (arith, c.if-size-eq0.false, c.min-size.ensures, c.room.ensures) in
    let size : c.min-size.result ≡ min (room_at c.args.conn c.args.service.now) most_at_once =
    omega (arith, c.min-size.ensures, c.room.ensures) in
    reads_end g.W.Wire.after c.args.conn c.min-size.result c.happen-came.result c.args.wire.now c.fill.new.wire c.happen-came.new.wire
    c.args.service.now c.happen-came.new.service
    room size c.in-End.ensures.after c.happen-came.ensures

pub returns-in-Fault-clause-goes : goal.returns-in-Fault-clause-goes
returns-in-Fault-clause-goes g c =
    let room : 0 < room_at c.args.conn c.args.service.now = omega (arith, c.if-size-eq0.false, c.min-size.ensures, c.room.ensures) in
    let size : c.min-size.result ≡ min (room_at c.args.conn c.args.service.now) most_at_once =
    omega (arith, c.min-size.ensures, c.room.ensures) in
    reads_fault g.W.Wire.after c.args.conn c.min-size.result c.happen-came-in-Fault.result c.args.wire.now c.fill.new.wire
    c.happen-came-in-Fault.new.wire c.args.service.now c.happen-came-in-Fault.new.service
    room size c.in-Fault.ensures.after c.happen-came-in-Fault.ensures
