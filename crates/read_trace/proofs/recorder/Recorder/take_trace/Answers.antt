-- What was written down is what the files answer.
use Rattle.std.proofs.Common.{subst, sym}
use Rattle.mk_eval.specs.Agreement.{Agrees}
use Rattle.read_trace.proofs.AgreeingFiles.{Agrees-agreement}
use Rattle.read_trace.proofs.recorder.Recorder.take_trace.Goals as goal

pub returns-clause-answered : goal.returns-clause-answered
returns-clause-answered g c =
    let files = (g.F.Names.view c.args.self.now.files).files in
    subst (Agrees files) (sym c.replace.ensures.value) (Agrees-agreement files c.args.self.now.trace c.args.self.now.is_answered)
