-- What `main` returns has the status of the run.
use Rattle.portsd_run.proofs.program.run_program.Goals as goal

pub returns : goal.returns
returns g c = rw c.from.ensures c.run_command-status.ensures
