use Rattle.std.proofs.Common.{◌≡◌, rules, true}
use Rattle.ports_core.specs.Keys.{is_fit}
use Rattle.portsd_run.specs.ScriptRun.{run_streams}
use Rattle.portsd_run.proofs.RunFacts.{completes, ends_undone}
use Rattle.portsd_run.proofs.script_run.run.Goals as goal

pub returns-clause-done : goal.returns-clause-done
returns-clause-done g c =
    let streams = run_streams (g.R.Read.remaining c.args.reader.now) (g.R.Read.remaining c.read_script.new.reader)
    (g.O.Write.contents c.args.out.now) (g.O.Write.contents c.run_script.new.out) in
    let fit : is_fit c.args.config ≡ true = search rules in
    completes c.args.config streams c.run_script.result c.in_ok-script.script fit c.in_ok-script.ensures.ok c.run_script.ensures.done

pub returns-clause-failed : goal.returns-clause-failed
returns-clause-failed g c =
    let streams = run_streams (g.R.Read.remaining c.args.reader.now) (g.R.Read.remaining c.read_script.new.reader)
    (g.O.Write.contents c.args.out.now) (g.O.Write.contents c.run_script.new.out) in
    let fit : is_fit c.args.config ≡ true = search rules in
    ends_undone c.args.config streams c.run_script.result c.in_ok-script.script fit c.in_ok-script.ensures.ok c.run_script.ensures.failed
