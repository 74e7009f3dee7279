use Rattle.std.proofs.Common.{◌≡◌, length, arith}
use Rattle.portsd_run.proofs.RunFacts.{done_run, failed_run}
use Rattle.portsd_run.proofs.script_run.run_script.Goals as goal

pub returns-clause-done : goal.returns-clause-done
returns-clause-done g c =
    done_run c.args.config c.args.script.now (g.O.Write.contents c.args.out.now) (g.O.Write.contents c.print_run.new.out) c.print_run.result
    c.replay-ran.result c.as_slice.result.now c.as_slice.ensures.value
    c.replay-ran.ensures.run c.replay-ran.ensures.plainly c.replay-ran.ensures.converses c.print_run.ensures.done

pub returns-clause-failed : goal.returns-clause-failed
returns-clause-failed g c =
    let script = c.args.script.now in
    let paired : length script.lines.items ≡ length script.events.items =
    omega (arith, script.lines.ok.0, script.events.ok.0, c.requires.paired) in
    failed_run c.args.config script (g.O.Write.contents c.args.out.now) (g.O.Write.contents c.print_run.new.out) c.print_run.result
    c.replay-ran.result c.as_slice.result.now c.as_slice.ensures.value
    c.requires.fit paired c.replay-ran.ensures.run c.replay-ran.ensures.plainly c.replay-ran.ensures.converses c.replay-ran.ensures.err
    c.print_run.ensures.failed
