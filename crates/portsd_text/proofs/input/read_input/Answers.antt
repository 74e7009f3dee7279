use Rattle.portsd_text.proofs.ScriptFacts.{given_some}
use Rattle.portsd_text.proofs.input.read_input.Goals as goal

pub returns-in_err-extend_from_slice-in-Ok-clause-err : goal.returns-in_err-extend_from_slice-in-Ok-clause-err
returns-in_err-extend_from_slice-in-Ok-clause-err g c =
    given_some c.from_residual.result (g.R.Read.remaining c.args.reader.now) _ (g.R.Read.remaining c.read.new.self) _ _
    c.loop.invariant c.in-Ok.ensures.bytes.0
