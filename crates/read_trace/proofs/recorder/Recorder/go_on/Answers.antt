-- The trace that it goes on with is answered as the files have it.
use Rattle.read_trace.proofs.AgreeingFiles.{agreement-Agrees}
use Rattle.read_trace.proofs.recorder.Recorder.go_on.Goals as goal

pub invariant_of-self : goal.invariant_of-self
invariant_of-self g c =
    let files = (g.F.Names.view c.args.self.now.files).files in
    record { is_answered = agreement-Agrees files c.args.trace c.requires }
