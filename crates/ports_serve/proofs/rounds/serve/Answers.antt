use Rattle.std.proofs.Common.{◌≡◌, ◌-◌, ◌+◌, zero, suc, false, ◌||◌, arith, subst}
use Rattle.ports_serve.specs.Rounds.{Rounds, brings}
use Rattle.ports_serve.proofs.Going.{Underway, begins, round_then, goes_through, no_round_left, ends, noted, goes_as}
use Rattle.ports_serve.proofs.rounds.serve.Goals as goal

pub loop-round-init : goal.loop-round-init
loop-round-init g c =
    let whole : c.args.rounds ≡ c.args.rounds - 0 = omega arith in
    record {
      going = (
        false,
        subst (λ left. Underway g.W.Wire.after false (Rounds c.args.rounds false) (Rounds left false) c.args.wire.now c.args.service
            c.args.wire.now c.args.service) whole
            (begins g.W.Wire.after (Rounds c.args.rounds false) c.args.wire.now c.args.service),
      );
      buffer = c.in_ok-buffer.ensures.capacity;
    }

pub loop-round-preserved : goal.loop-round-preserved
loop-round-preserved g c =
    let l = c.loop-round in
    let next : c.args.rounds - l._round ≡ suc (c.args.rounds - (l._round + 1)) = omega (arith, c.loop-round-test.true) in
    let went = noted g.W.Wire.after l.wire c.round-left.new.wire l.service c.round-left.new.service c.round-left.ensures.goes in
    let underway = l.invariant.going in
    record {
      going = (
        (underway.0 || brings c.round-left.ensures.goes.course),
        goes_through g.W.Wire.after underway.0 (brings c.round-left.ensures.goes.course) c.args.wire.now l.wire c.round-left.new.wire
            c.args.service l.service c.round-left.new.service
            (round_then (c.args.rounds - l._round) (c.args.rounds - (l._round + 1)) l.idle c.round-left.result.1 l.service
            c.round-left.new.service next)
            underway.1 went,
      );
      buffer = c.round-left.ensures.buffer;
    }

pub returns-clause-served : goal.returns-clause-served
returns-clause-served g c =
    let l = c.loop-round in
    let none : c.args.rounds - l._round ≡ zero = omega (arith, c.loop-round-test.false) in
    let went = ends g.W.Wire.after l.invariant.going.0 c.args.wire.now l.wire c.args.service l.service
    (no_round_left (c.args.rounds - l._round) l.idle l.service none) l.invariant.going.1 in
    goes_as g.W.Wire.after c.args.wire.now l.wire c.args.service l.service (λ course goes. goes.0) went
