-- The law of evaluations, for a trace that agrees.
use Rattle.std.proofs.Common.{ap₂}
use Rattle.mk_eval.specs.Agreement.{questions_of}
use Rattle.read_trace.specs.declared.evaluation.Evaluation.{Evaluation}
use Rattle.read_trace.proofs.AgreeingFiles.{Agrees-agreement}
use Rattle.read_trace.proofs.laws.same_where_agreed.Goals as goal

pub returns : goal.returns
returns c = λ files other settings name flavors agrees.
    let same = c.same_where_answered.ensures files other settings name flavors
    (Agrees-agreement other (questions_of files settings name flavors) agrees) in
    ap₂ (λ outcome trace. let found : Evaluation = record { outcome = outcome; trace = trace } in found) same.0 same.1
