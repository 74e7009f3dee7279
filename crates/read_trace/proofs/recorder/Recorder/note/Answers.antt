-- The question is answered as the files have it.
use Rattle.read_trace.proofs.AgreeingFiles.{IsAnswered-added}
use Rattle.read_trace.proofs.recorder.Recorder.note.Goals as goal

pub invariant_of-self : goal.invariant_of-self
invariant_of-self g c =
    let files = (g.F.Names.view c.args.self.now.files).files in
    record {
      is_answered = IsAnswered-added c.add.result files c.args.self.now.trace c.add.new.self c.args.question
          c.args.self.now.is_answered c.requires c.add.ensures.ok c.add.ensures.err;
    }
