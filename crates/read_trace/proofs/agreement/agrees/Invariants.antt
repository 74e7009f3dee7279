-- The questions up to here are answered as the trace says.
use Rattle.std.proofs.Common.{◌≡◌, drop}
use Rattle.read_trace.specs.Agreement.{agreement, AsksAgain}
use Rattle.read_trace.proofs.AgreeingFiles.{after_checks}
use Rattle.read_trace.proofs.agreement.agrees.Given as goal

abbrev pub invariant-loop-question : goal.invariant-loop-question
invariant-loop-question g l = record {
  counted : l.checked ≡ l.question-index;
  agrees : agreement (g.F.Names.view l.initial.files).files l.trace ≡ after_checks l.checked
      (agreement (g.F.Names.view l.initial.files).files (drop l.question-index l.trace));
  asked : AsksAgain (g.F.Names.view l.initial.files) l.trace l.checked (g.F.Names.view l.files);
}
