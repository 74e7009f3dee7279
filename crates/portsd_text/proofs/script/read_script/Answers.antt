use Rattle.std.proofs.Common.{rules}
use Rattle.portsd_text.proofs.ScriptFacts.{reads, unread_for_memory}
use Rattle.portsd_text.proofs.script.read_script.Goals as goal

pub returns-in_err-given-clause-err : goal.returns-in_err-given-clause-err
returns-in_err-given-clause-err g c =
    unread_for_memory (g.R.Read.remaining c.args.reader.now) (g.R.Read.remaining c.read_input.new.reader) c.from_residual.result
    (search rules) c.in_err-given.ensures.err

pub returns-clause-ok : goal.returns-clause-ok
returns-clause-ok g c =
    reads (g.R.Read.remaining c.args.reader.now) (g.R.Read.remaining c.read_input.new.reader) c.in_ok-given.given.whole
    c.as_slice.result.now c.read_lines.result (search rules) c.read_lines.ensures.ok
