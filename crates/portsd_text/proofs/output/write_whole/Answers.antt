use Rattle.std.proofs.Common.{arith}
use Rattle.portsd_text.proofs.WriteFacts.{goes_on, stays, length-left_of}
use Rattle.portsd_text.proofs.output.write_whole.Goals as goal
use Rattle.portsd_text.proofs.output.write_whole.Goals.{in-Ok, in-Err}

pub loop-preserved : goal.loop-preserved
loop-preserved g c =
    elim c.match-write.branch [
      | in-Ok w ↦ (
        omega (arith, w.in-Ok.ensures.bound, length-left_of c.args.bytes.now c.loop.done, w.done-is, c.loop.invariant.0),
        goes_on (g.W.Write.contents c.args.out.now) _ (g.W.Write.contents c.write.new.self) c.args.bytes.now c.loop.done w.in-Ok.count
            c.match-write.done w.done-is c.loop.invariant.1 w.in-Ok.ensures.bytes,
      )
      | in-Err w ↦ (
        omega (arith, w.done-is, c.loop.invariant.0),
        stays (g.W.Write.contents c.args.out.now) _ (g.W.Write.contents c.write.new.self) c.args.bytes.now c.loop.done c.match-write.done
            w.done-is c.loop.invariant.1 w.in-Err.ensures.bytes,
      )
    ]
